use Rattle.bidi_base.proofs.Common.{IfOk-weaker}
use Rattle.unicode_bidi.proofs.engine.analyse.Goals as goal

pub returns : goal.returns
returns g c = rw (← c.then_some-rule.ensures) (IfOk-weaker c.analyse_by.result _ _ (λ a found. found.analysis) c.analyse_by.ensures)
