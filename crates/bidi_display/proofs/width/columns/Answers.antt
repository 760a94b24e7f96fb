use Rattle.bidi_base.proofs.Common.{sym, ◌∙◌}
use Rattle.bidi_display.proofs.WidthLemmas.{narrow-columns}
use Rattle.bidi_display.proofs.width.columns.Goals as goal

pub returns-then-is_narrow : goal.returns-then-is_narrow
returns-then-is_narrow c = sym (narrow-columns c.args.wide_ambiguous c.args.c (sym c.is_narrow.ensures ∙ c.if-is_narrow.true))
