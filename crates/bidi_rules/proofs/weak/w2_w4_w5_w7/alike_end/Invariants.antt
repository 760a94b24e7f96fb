use Rattle.bidi_base.proofs.Common.{◌≡◌, ℕ, ◌+◌, ◌-◌, ◌<◌, ◌≤◌, class_at}
use Rattle.bidi_rules.proofs.weak.w2_w4_w5_w7.alike_end.Given as goal

-- the units so far have the class
abbrev pub invariant-loop-unit : goal.invariant-loop-unit
invariant-loop-unit g l = record {
  alike : (k : ℕ) → l.at ≤ k → k < l.unit → class_at l.classes k ≡ class_at l.classes l.at;
  steps : l.steps ≡ l.fn.steps + (l.unit - (l.at + 1));
}
