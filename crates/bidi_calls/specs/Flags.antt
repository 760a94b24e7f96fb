-- The flags of a displayed line, as a number: what moves in its lowest two bits, whether characters are mirrored in the
-- next bit, and which characters are dropped in the two bits above.
use Rattle.std.specs.Prelude.{ℕ, Bool, ◌%◌, ◌/◌, ◌==◌, ◌&&◌, nat_lt, if◌then◌else◌}
use Rattle.bidi_display.specs.Shown.{unicode_mirrored}
use Rattle.bidi_display.specs.declared.options.DisplayOptions.{DisplayOptions}
use Rattle.bidi_display.specs.declared.options.Dropped.{Dropped}
use Rattle.bidi_display.specs.declared.options.Dropped.TheVariants.{Nothing, Controls, ControlsAndBoundaryNeutrals}
use Rattle.bidi_display.specs.declared.options.Moves.{Moves}
use Rattle.bidi_display.specs.declared.options.Moves.TheVariants.{Characters, Marks, Clusters}

-- the number is that of flags
abbrev pub is_flags : ℕ → Bool
is_flags flags = nat_lt flags 24 && nat_lt (flags % 4) 3

-- what L2 moves as a whole
abbrev pub moves_by : ℕ → Moves
moves_by flags = if flags % 4 == 0 then Characters else if flags % 4 == 1 then Marks else Clusters

-- which characters are not displayed
abbrev pub dropped_by : ℕ → Dropped
dropped_by flags = if flags / 8 == 0 then Nothing else if flags / 8 == 1 then Controls else ControlsAndBoundaryNeutrals

-- characters are mirrored at odd levels (L4)
abbrev pub mirrors : ℕ → Bool
mirrors flags = flags / 4 % 2 == 1

-- the options of a line; nothing reads its columns
abbrev pub options_by : ℕ → DisplayOptions
options_by flags = record { moves = moves_by flags; dropped = dropped_by flags; tab = 0 }

-- the character that is displayed at an odd level in place of another, by Unicode's data
abbrev pub mirrored_if : Bool → ℕ → ℕ
mirrored_if on c = if on then unicode_mirrored c else c
