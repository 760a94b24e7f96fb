-- What came does not pass, and each item was a step.
use Rattle.bidi_base.proofs.Common.{◌+◌, ◌≡◌, ℕ, ◌<◌, ◌≤◌, false}
use Rattle.bidi_base.proofs.search.first_one_by_one.Given as goal

abbrev pub invariant-loop-at : goal.invariant-loop-at
invariant-loop-at g l = record {
  before : (k : ℕ) → l.from ≤ k → k < l.at → g.T.Tested.passes l.tested k ≡ false;
  count : l.steps + l.from ≡ l.fn.steps + l.at;
}
