use Rattle.bidi_base.proofs.Common.{arith, common_steps}
use Rattle.bidi_text.specs.ClassText.{class_numbered}
use Rattle.bidi_text.proofs.text.class_text.ClassDataBidiDataSource.bidi_class.Goals as goal

pub returns-in-Some : goal.returns-in-Some
unfolding class_numbered
returns-in-Some c = grind (arith, common_steps)

pub returns-in-None : goal.returns-in-None
unfolding class_numbered
returns-in-None c = grind (arith, common_steps)
