use Rattle.bidi_base.proofs.Common.{◌≡◌, drop}
use Rattle.bidi_display.specs.LineClusters.{level_char}
use Rattle.bidi_display.specs.declared.options.DisplayOptions.{DisplayOptions}
use Rattle.bidi_display.proofs.grouping.cluster_level.Given as goal

abbrev pub invariant-loop-c : goal.invariant-loop-c
invariant-loop-c l = (options : DisplayOptions) → options.dropped ≡ l.dropped → level_char options l.cluster ≡ level_char options (drop l.c-index l.cluster)
