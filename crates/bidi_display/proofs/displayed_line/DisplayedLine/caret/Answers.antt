use Rattle.std.proofs.Common.{rules, arith}
use Rattle.std.proofs.lemmas.Grind.{common_steps}
use Rattle.std.proofs.lemmas.Bool.Decides.{nat_tests}
use Rattle.bidi_display.specs.Carets.{caret}
use Rattle.bidi_display.proofs.displayed_line.DisplayedLine.caret.Goals as goal

pub returns-then-unit-range : goal.returns-then-unit-range
unfolding caret
returns-then-unit-range c = grind (arith, common_steps, nat_tests)

pub returns : goal.returns
unfolding caret
returns c = search rules
