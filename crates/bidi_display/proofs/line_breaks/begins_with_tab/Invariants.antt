use Rattle.bidi_base.proofs.Common.{◌≡◌, drop}
use Rattle.bidi_display.specs.LineClusters.{displayed_chars}
use Rattle.bidi_display.proofs.line_breaks.begins_with_tab.Given as goal

abbrev pub invariant-loop-c : goal.invariant-loop-c
invariant-loop-c l = displayed_chars l.options l.chars ≡ displayed_chars l.options (drop l.c-index l.chars)
