use Rattle.bidi_base.proofs.Common.{sym, ◌∙◌}
use Rattle.bidi_display.proofs.BreakLemmas.{given_break_after-last}
use Rattle.bidi_display.proofs.line_breaks.GivenBreaksLineBreaks.break_after.Goals as goal

pub returns-in-Some : goal.returns-in-Some
returns-in-Some c = c.given_break.ensures ∙ sym (given_break_after-last c.args.self.now.after.now c.args.cluster.now c.in-Some.c.now (sym c.in-Some.ensures.value))
