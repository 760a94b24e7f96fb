use Rattle.bidi_base.proofs.Common.{length, arith}
use Rattle.bidi_base.proofs.TextUnitIndexes.{IsLine-unit_indexes, unit_index-zero, unit_index-end}
use Rattle.bidi_text.proofs.text.whole.Goals as goal

pub returns-clause-is_line : goal.returns-clause-is_line
returns-clause-is_line g c =
    let text = g.T.TextSource.text c.args.text in
    grind (arith, IsLine-unit_indexes text 0 (length text.chars), unit_index-zero text, unit_index-end text (length text.chars))
