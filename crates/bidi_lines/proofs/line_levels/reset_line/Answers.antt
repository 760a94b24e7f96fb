use Rattle.bidi_base.proofs.Common.{arith}
use Rattle.bidi_lines.proofs.LineInText.{levels_with_line-written}
use Rattle.bidi_lines.proofs.line_levels.reset_line.Goals as goal

pub returns : goal.returns
returns c = grind (arith, levels_with_line-written)
