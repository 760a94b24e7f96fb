use Rattle.bidi_base.proofs.Common.{arith}
use Rattle.bidi_lines.proofs.visual_order.least_of.Goals as goal

pub loop-i-preserved : goal.loop-i-preserved
loop-i-preserved g c = record {
  least = λ p a h. grind (arith, c.loop-i.invariant.least p);
  above = λ threshold h. omega (arith, c.loop-i.invariant.above threshold (λ p a k. h p a (omega arith)), h c.loop-i.i (omega arith) (omega arith));
}
