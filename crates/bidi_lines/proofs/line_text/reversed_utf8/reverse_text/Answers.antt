use Rattle.bidi_base.proofs.Common.{arith}
use Rattle.bidi_lines.proofs.line_text.reversed_utf8.reverse_text.Goals as goal

pub returns : goal.returns
returns c = grind arith
