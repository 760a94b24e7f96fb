use Rattle.bidi_base.proofs.Common.{arith}
use Rattle.bidi_lines.proofs.LineInText.{length-levels_with_line}
use Rattle.bidi_lines.proofs.line_levels.levels_per_char.Goals as goal

pub first_units-requires : goal.first_units-requires
first_units-requires g c = grind (arith, length-levels_with_line)
