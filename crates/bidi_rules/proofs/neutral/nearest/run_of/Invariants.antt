-- The runs below `low` end at or before the unit, those from `high` on after it.
use Rattle.bidi_base.proofs.Common.{◌-◌, ◌<◌, ◌≤◌, ℕ, length, map, get_or, bounds}
use Rattle.bidi_rules.proofs.neutral.nearest.run_of.Given as goal

abbrev pub invariant-loop-low : goal.invariant-loop-low
invariant-loop-low l = record {
  below : (i : ℕ) → i < l.low → (get_or (map bounds l.runs) i (0, 0)).1 ≤ l.unit;
  above : (i : ℕ) → l.high ≤ i → i < length l.runs → l.unit < (get_or (map bounds l.runs) i (0, 0)).1;
  order : l.low ≤ l.high;
  within : l.high ≤ length l.runs;
}

abbrev pub decreases-loop-low : goal.decreases-loop-low
decreases-loop-low l = l.high - l.low
