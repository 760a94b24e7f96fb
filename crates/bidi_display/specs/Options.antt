-- How a line is displayed by default.
use Rattle.bidi_display.specs.declared.options.DisplayOptions.{DisplayOptions}
use Rattle.bidi_display.specs.declared.options.Dropped.TheVariants.{Controls}
use Rattle.bidi_display.specs.declared.options.Moves.TheVariants.{Clusters}

-- grapheme clusters move, the twelve direction controls are dropped, and there is a tab stop at each eighth column
abbrev pub first_options : DisplayOptions
first_options = record { moves = Clusters; dropped = Controls; tab = 8 }
