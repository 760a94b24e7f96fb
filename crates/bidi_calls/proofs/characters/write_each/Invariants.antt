use Rattle.bidi_base.proofs.Common.{◌≡◌, length, take, unit_index}
use Rattle.bidi_calls.specs.Characters.{numbers_of}
use Rattle.bidi_calls.proofs.characters.write_each.Given as goal

-- the numbers of the characters so far
abbrev pub invariant-loop-c : goal.invariant-loop-c
invariant-loop-c g l =
    let chars = (g.T.TextSource.text l.fn.text).chars in
    let number = g.N.Numbering.number (g.D.BidiDataSource.source l.data_source) in
    (goal.iterator-loop-c g).can_next l.c-iterator
    × (goal.iterator-loop-c g).is_finite l.c-iterator
    × (l.at ≡ unit_index g.T.TextSource.encoding.len_of chars (length l.yielded))
    × (take l.at l.out ≡ numbers_of number g.T.TextSource.encoding.len_of (take (length l.yielded) chars))
