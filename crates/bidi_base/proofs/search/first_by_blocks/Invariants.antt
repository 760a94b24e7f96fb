-- What came does not pass, and each block was one step.
use Rattle.bidi_base.proofs.Common.{◌-◌, ◌+◌, ◌*◌, ◌≡◌, ℕ, ◌<◌, ◌≤◌, false, min}
use Rattle.bidi_base.proofs.search.first_by_blocks.Given as goal

abbrev pub invariant-loop-at : goal.invariant-loop-at
invariant-loop-at g l = record {
  begins : l.from ≤ l.at;
  before : (k : ℕ) → l.from ≤ k → k < l.at → g.T.Tested.passes l.tested k ≡ false;
  least : l.at + 16 * l.fn.steps ≤ l.from + 16 * l.steps;
  most : l.steps + l.from ≤ l.fn.steps + min l.at l.to;
}

abbrev pub decreases-loop-at : goal.decreases-loop-at
decreases-loop-at g l = l.to - l.at
