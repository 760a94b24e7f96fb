use Rattle.bidi_base.proofs.Common.{◌≡◌, length, drop, is_per_char}
use Rattle.bidi_text.proofs.text.is_per_char.Given as goal

abbrev pub invariant-loop-c : goal.invariant-loop-c
invariant-loop-c g l =
    (goal.iterator-loop-c g).can_next l.c-iterator × (goal.iterator-loop-c g).is_finite l.c-iterator
    × (is_per_char g.E.PartialEq.eq g.T.TextSource.encoding.len_of (drop (length l.yielded) (g.T.TextSource.text l.fn.text).chars) l.rest
    ≡ is_per_char g.E.PartialEq.eq g.T.TextSource.encoding.len_of (g.T.TextSource.text l.fn.text).chars l.units)
