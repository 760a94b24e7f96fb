use Rattle.bidi_base.proofs.Common.{arith, common_steps}
use Rattle.bidi_base.proofs.LevelsLemmas.{either_odd}
use Rattle.bidi_base.proofs.level.has_rtl.Goals as goal

pub loop-level-preserved : goal.loop-level-preserved
loop-level-preserved c = grind (arith, common_steps, either_odd)
