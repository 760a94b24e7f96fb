use Rattle.bidi_base.proofs.Common.{◌≡◌, length}
use Rattle.bidi_calls.proofs.counted.count_one_by_one.Given as goal

abbrev pub invariant-loop-at : goal.invariant-loop-at
invariant-loop-at g l =
    (goal.iterator-loop-at g).can_next l.at-iterator × (goal.iterator-loop-at g).is_finite l.at-iterator × (l.count ≡ length l.yielded)
