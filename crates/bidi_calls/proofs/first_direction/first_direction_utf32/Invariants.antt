use Rattle.bidi_base.proofs.Common.{◌≡◌, ◌≤◌, drop}
use Rattle.bidi_calls.proofs.FirstDirectionLemmas.{utf32_from}
use Rattle.bidi_calls.proofs.first_direction.first_direction_utf32.Given as goal

abbrev pub invariant-loop-number : goal.invariant-loop-number
invariant-loop-number g l =
    let source = g.D.BidiDataSource.source l.data_source in
    (l.depth ≤ l.number-index) × (utf32_from source l.full 0 l.text ≡ utf32_from source l.full l.depth (drop l.number-index l.text))
