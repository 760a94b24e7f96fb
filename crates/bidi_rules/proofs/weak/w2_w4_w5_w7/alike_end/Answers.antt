use Rattle.bidi_base.proofs.Common.{inl, inr, arith, cases_eq}
use Rattle.bidi_rules.proofs.weak.w2_w4_w5_w7.alike_end.Goals as goal

pub loop-unit-preserved : goal.loop-unit-preserved
loop-unit-preserved g c =
    record {
      alike = λ k from below. elim (cases_eq k c.loop-unit.unit) [
        | inl here ↦ grind arith
        | inr other ↦ c.loop-unit.invariant.alike k from (omega arith)
      ];
      steps = omega arith;
    }
