use Rattle.bidi_base.proofs.Common.{IfOk-weaker}
use Rattle.unicode_bidi.proofs.RunsOfLine.{parts_of_line}
use Rattle.unicode_bidi.proofs.paragraph_bidi_info.ParagraphBidiInfo.line_runs.Goals as goal

pub returns : goal.returns
returns g c =
    IfOk-weaker c.line_runs.result _ _ (λ v runs. record { runs = runs; parts = parts_of_line _ _ _ v.items runs })
    c.line_runs.ensures
