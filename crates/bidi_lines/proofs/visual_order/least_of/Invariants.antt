use Rattle.bidi_base.proofs.Common.{ℕ, ◌<◌, ◌≤◌, slice_index}
use Rattle.bidi_lines.proofs.visual_order.least_of.Given as goal

abbrev pub invariant-loop-i : goal.invariant-loop-i
invariant-loop-i g l = record {
  least : (p : ℕ) → l.from ≤ p → p < l.i → l.least ≤ slice_index (g.L.LevelList.numbers l.levels) p;
  above : (threshold : ℕ) → ((p : ℕ) → l.from ≤ p → p < l.i → threshold < slice_index (g.L.LevelList.numbers l.levels) p) → threshold < l.least;
}
