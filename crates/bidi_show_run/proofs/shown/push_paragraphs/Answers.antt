use Rattle.bidi_base.proofs.Common.{arith, common_steps}
use Rattle.bidi_show_run.proofs.shown.push_paragraphs.Goals as goal

pub loop-paragraph-preserved : goal.loop-paragraph-preserved
loop-paragraph-preserved g c = grind (arith, common_steps)
