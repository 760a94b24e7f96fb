use Rattle.bidi_base.proofs.Common.{arith, IfOk-weaker}
use Rattle.bidi_lines.proofs.LineByLevels.{stored-runs}
use Rattle.bidi_lines.proofs.StoredLine.{same_len, within, of_units}
use Rattle.bidi_lines.proofs.analysed.Analysed.visual_runs.Goals as goal

pub levels_and_runs-requires : goal.levels_and_runs-requires
levels_and_runs-requires g c = grind (arith, same_len, within)

pub returns-clause-levels : goal.returns-clause-levels
returns-clause-levels g c =
    rw (← c.original_classes.ensures.classes, ← c.levels.ensures.levels)
    (IfOk-weaker c.levels_and_runs.result _ _
    (λ v e. of_units _ g.T.TextSource.encoding.positive _ c.args.para_level _ _ c.args.line c.original_classes.ensures.per_char c.levels.ensures.per_char c.requires.is_line v.0.items e)
    c.levels_and_runs.ensures.levels)

pub returns-clause-runs : goal.returns-clause-runs
returns-clause-runs g c =
    rw (← c.original_classes.ensures.classes, ← c.levels.ensures.levels)
    (IfOk-weaker c.levels_and_runs.result _ _
    (λ v e. stored-runs _ g.T.TextSource.encoding.positive _ c.args.para_level _ _ c.args.line c.original_classes.ensures.per_char c.levels.ensures.per_char c.requires.is_line _ e)
    c.levels_and_runs.ensures.runs)
