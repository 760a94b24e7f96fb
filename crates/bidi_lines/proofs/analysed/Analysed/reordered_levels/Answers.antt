use Rattle.bidi_base.proofs.Common.{arith, IfOk-weaker}
use Rattle.bidi_lines.proofs.StoredLine.{same_len, within, of_units}
use Rattle.bidi_lines.proofs.analysed.Analysed.reordered_levels.Goals as goal

pub levels_with_line-requires : goal.levels_with_line-requires
levels_with_line-requires g c = grind (arith, same_len, within)

pub returns : goal.returns
returns g c =
    rw (← c.original_classes.ensures.classes, ← c.levels.ensures.levels)
    (IfOk-weaker c.levels_with_line.result _ _
    (λ v e. of_units _ g.T.TextSource.encoding.positive _ c.args.para_level _ _ c.args.line c.original_classes.ensures.per_char c.levels.ensures.per_char c.requires v.items e)
    c.levels_with_line.ensures)
