use Rattle.bidi_base.proofs.Common.{◌≡◌, ◌+◌, ◌≤◌, length}
use Rattle.bidi_calls.proofs.FirstDirectionLemmas.{utf8_from}
use Rattle.bidi_calls.proofs.first_direction.first_direction_utf8.Given as goal

abbrev pub invariant-loop-rest : goal.invariant-loop-rest
invariant-loop-rest g l =
    let source = g.D.BidiDataSource.source l.data_source in
    (l.depth + length l.rest ≤ length l.text) × (utf8_from source l.full 0 l.text ≡ utf8_from source l.full l.depth l.rest)

abbrev pub decreases-loop-rest : goal.decreases-loop-rest
decreases-loop-rest g l = length l.rest
