use Rattle.bidi_base.proofs.Common.{◌≡◌, map, take, string_bytes, chars}
use Rattle.bidi_display.specs.LineClusters.{displayed_chars}
use Rattle.bidi_display.specs.declared.options.DisplayOptions.{DisplayOptions}
use Rattle.bidi_display.proofs.grouping.collect_displayed.Given as goal

abbrev pub invariant-loop-c : goal.invariant-loop-c
invariant-loop-c l =
    (options : DisplayOptions) → options.dropped ≡ l.dropped → chars (string_bytes l.out) ≡ map (λ c. c.char) (displayed_chars options (take l.c-index l.cluster))
