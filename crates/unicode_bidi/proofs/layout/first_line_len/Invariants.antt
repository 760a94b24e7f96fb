use Rattle.bidi_base.proofs.Common.{◌≡◌, ◌+◌, length, unit_index}
use Rattle.unicode_bidi.proofs.layout.first_line_len.Given as goal

-- what is left of the limit is what the characters so far have not taken
abbrev pub invariant-loop-at : goal.invariant-loop-at
invariant-loop-at g l =
    (goal.iterator-loop-at g).can_next l.at-iterator × (goal.iterator-loop-at g).is_finite l.at-iterator
    × (l.left + unit_index (g.W.CharWidth.width_of l.widths) (g.T.TextSource.text l.fn.text).chars (length l.yielded) ≡ l.fn.limit)
