use Rattle.bidi_base.proofs.Common.{arith, IfOk-weaker}
use Rattle.bidi_lines.proofs.StoredLine.{same_len, within, of_units, of_chars-units}
use Rattle.unicode_bidi.proofs.engine.line_levels.Goals as goal

pub levels_with_line-requires : goal.levels_with_line-requires
levels_with_line-requires g c = grind (arith, same_len, within)

pub returns-clause-levels : goal.returns-clause-levels
returns-clause-levels g c =
    IfOk-weaker c.levels_with_line.result _ _
    (λ v e. of_units g.T.TextSource.encoding.len_of g.T.TextSource.encoding.positive (g.T.TextSource.text c.args.text).chars c.args.level _ _ c.args.line c.requires.classes c.requires.levels c.requires.is_line
    v.items (rw (← c.original_classes.ensures, ← c.levels.ensures) e))
    c.levels_with_line.ensures

pub returns-clause-by_characters : goal.returns-clause-by_characters
returns-clause-by_characters g c = grind (arith, of_chars-units)
