use Rattle.bidi_base.proofs.Common.{IfOk-weaker}
use Rattle.unicode_bidi.proofs.layout.lines.Goals as goal

pub returns-clause-lines : goal.returns-clause-lines
returns-clause-lines g c =
    IfOk-weaker c.lines_of_text.result _ _ (λ v e. cc (e, c.new.ensures, c.text.ensures, c.range.ensures)) c.lines_of_text.ensures.lines
