use Rattle.bidi_base.proofs.Common.{arith, common_steps}
use Rattle.bidi_plain.proofs.Separators.{separator_step, separators_end}
use Rattle.bidi_plain.proofs.plain.weak_types.apply_w4.Goals as goal

pub loop-i-preserved : goal.loop-i-preserved
loop-i-preserved c = grind (arith, common_steps, separator_step)

pub returns : goal.returns
returns c = separators_end c.args.classes.now c.loop-i.classes c.loop-i.i (omega arith) c.loop-i.invariant
