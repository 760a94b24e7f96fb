use Rattle.bidi_base.proofs.Common.{◌≡◌, ◌++◌, flat_map}
use Rattle.bidi_calls.proofs.whole_text.push_text.Given as goal

abbrev pub invariant-loop-c : goal.invariant-loop-c
invariant-loop-c g l =
    (goal.iterator-loop-c g).can_next l.c-iterator
    × (goal.iterator-loop-c g).is_finite l.c-iterator
    × (l.out.items ≡ l.fn.out.items ++ flat_map g.T.LineText.encode l.yielded)
