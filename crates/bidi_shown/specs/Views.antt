-- How lines are shown: by default, and what a view says of clusters and characters.
use Rattle.std.specs.Prelude.{ℕ, Bool, true, false, if◌then◌else◌, List, None}
use Rattle.bidi_display.specs.Shown.{unicode_mirrored}
use Rattle.bidi_display.specs.Widths.{columns_of_cluster, sum_of_columns}
use Rattle.bidi_display.specs.declared.options.DisplayOptions.{DisplayOptions}
use Rattle.bidi_display.specs.declared.options.Dropped.TheVariants.{Controls, Nothing}
use Rattle.bidi_display.specs.declared.options.Moves.TheVariants as moves
use Rattle.bidi_terminal.specs.declared.base.Base.TheVariants.{Auto}
use Rattle.bidi_shown.specs.declared.view.View.{View}
use Rattle.bidi_shown.specs.declared.view.Widths.{Widths}
use Rattle.bidi_shown.specs.declared.view.Widths.TheVariants.{Clusters, Characters}

-- what `show` does without options
abbrev pub first_view : View
first_view = record {
  base = Auto;
  width = None;
  plain = false;
  moves = moves.Clusters;
  mirrors = true;
  keeps_controls = false;
  widths = Characters;
  wide_ambiguous = false;
}

-- what moves, and what is not displayed; there is a tab stop at each eighth column
abbrev pub options_in : View → DisplayOptions
options_in view = record { moves = view.moves; dropped = if view.keeps_controls then Nothing else Controls; tab = 8 }

-- the columns of a cluster, from its displayed characters
abbrev pub columns_by : Widths → Bool → List ℕ → ℕ
columns_by Clusters wide_ambiguous cluster = columns_of_cluster wide_ambiguous cluster
columns_by Characters wide_ambiguous cluster = sum_of_columns wide_ambiguous cluster

abbrev pub columns_in : View → List ℕ → ℕ
columns_in view cluster = columns_by view.widths view.wide_ambiguous cluster

-- the character that is displayed in place of another one at an odd level (L4)
abbrev pub mirrored_in : View → ℕ → ℕ
mirrored_in view c = if view.mirrors then unicode_mirrored c else c
