use Rattle.bidi_base.proofs.Common.{IfOk-weaker}
use Rattle.unicode_bidi.proofs.engine.analyse_with_rule.Goals as goal

pub returns : goal.returns
returns g c = IfOk-weaker c.analyse_by.result _ _ (λ a found. found.analysis) c.analyse_by.ensures
