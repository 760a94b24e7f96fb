use Rattle.bidi_base.proofs.Common.{sym, ◌∙◌}
use Rattle.bidi_display.proofs.BreakLemmas.{simple_break_after-last}
use Rattle.bidi_display.proofs.line_breaks.SimpleBreaksLineBreaks.break_after.Goals as goal

pub returns-in-Some : goal.returns-in-Some
returns-in-Some c = c.simple_break.ensures ∙ sym (simple_break_after-last c.args.cluster.now c.in-Some.c.now (sym c.in-Some.ensures.value))
