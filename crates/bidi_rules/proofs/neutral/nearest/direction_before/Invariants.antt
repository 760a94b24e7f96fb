-- No unit looked at has a direction.
use Rattle.bidi_base.proofs.Common.{◌≡◌, ◌<◌, ◌≤◌, ℕ, true, None, map, drop, get_or, as_direction, class_at, bounds, in_runs}
use Rattle.bidi_explicit.proofs.WalkLemmas.{no_range}
use Rattle.bidi_rules.proofs.neutral.nearest.direction_before.Given as goal

abbrev pub invariant-loop-run : goal.invariant-loop-run
invariant-loop-run l = (k : ℕ) → in_runs (drop l.run (map bounds l.runs)) k ≡ true → k < l.to → as_direction (class_at l.classes k) ≡ None

abbrev pub invariant-loop-unit : goal.invariant-loop-unit
invariant-loop-unit l = (k : ℕ) → l.unit ≤ k → k < (get_or l.runs l.run no_range).end → k < l.to → as_direction (class_at l.classes k) ≡ None
