use Rattle.bidi_base.proofs.Common.{arith}
use Rattle.bidi_calls.proofs.CallerLines.{length-own_units}
use Rattle.bidi_calls.proofs.line_text.own_text.Goals as goal

pub returns-clause-same_len : goal.returns-clause-same_len
returns-clause-same_len g c = grind (arith, length-own_units)
