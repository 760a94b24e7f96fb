use Rattle.bidi_base.proofs.Common.{arith}
use Rattle.bidi_calls.proofs.CallerLines.{length-caller_line_levels}
use Rattle.bidi_calls.specs.CallerLine.{caller_line_levels}
use Rattle.bidi_calls.proofs.line.CallerLine.after_l1.Goals as goal

pub returns : goal.returns
unfolding caller_line_levels
returns c = grind (arith, length-caller_line_levels c.args.self.now)
