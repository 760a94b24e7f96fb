-- No unit so far stands for the direction.
use Rattle.bidi_base.proofs.Common.{◌≡◌, ◌<◌, ◌≤◌, ℕ, true, false, map, take, stands_for, class_at, bounds, in_runs}
use Rattle.bidi_rules.proofs.neutral.nearest.first_for.Given as goal

abbrev pub invariant-loop-run : goal.invariant-loop-run
invariant-loop-run l = (k : ℕ) → in_runs (take l.run-index (map bounds l.runs)) k ≡ true → l.from ≤ k → k < l.to → stands_for l.direction (class_at l.classes k) ≡ false
