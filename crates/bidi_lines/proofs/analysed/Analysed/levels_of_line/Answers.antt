use Rattle.bidi_base.proofs.Common.{arith}
use Rattle.bidi_lines.proofs.StoredLine.{same_len, within, of_line}
use Rattle.bidi_lines.proofs.analysed.Analysed.levels_of_line.Goals as goal

pub levels_of_line-requires : goal.levels_of_line-requires
levels_of_line-requires g c = grind (arith, same_len, within)

pub returns : goal.returns
returns g c = grind (arith, of_line)
