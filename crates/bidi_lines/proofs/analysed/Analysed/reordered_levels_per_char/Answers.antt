use Rattle.bidi_base.proofs.Common.{arith, IfOk-weaker}
use Rattle.bidi_lines.proofs.StoredLine.{same_len, within, one_per_unit, of_chars}
use Rattle.bidi_lines.proofs.analysed.Analysed.reordered_levels_per_char.Goals as goal

pub levels_per_char-requires : goal.levels_per_char-requires
levels_per_char-requires g c = grind (arith, one_per_unit, same_len, within)

pub returns : goal.returns
returns g c =
    rw (← c.original_classes-classes.ensures.classes, ← c.levels.ensures.levels)
    (IfOk-weaker c.levels_per_char.result _ _
    (λ v e. of_chars _ g.T.TextSource.encoding.positive _ c.args.para_level _ _ c.args.line c.original_classes-classes.ensures.per_char c.levels.ensures.per_char c.requires v.items e)
    c.levels_per_char.ensures)
