use Rattle.bidi_base.proofs.Common.{arith, common_steps}
use Rattle.bidi_base.proofs.LevelsLemmas.{either_odd}
use Rattle.bidi_lines.proofs.lists.any_odd.Goals as goal

pub loop-number-preserved : goal.loop-number-preserved
loop-number-preserved c = grind (arith, common_steps, either_odd)
