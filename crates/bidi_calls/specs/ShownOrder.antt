-- The displayed characters of a line from left to right, as their indexes in the line, and the place of each character.
use Rattle.std.specs.Prelude.{ℕ, ◌+◌, ◌==◌, if◌then◌else◌, List, [], ◌∷◌, map, flat_map, slice_range}
use Rattle.bidi_base.specs.Indexes.{at_indexes, between}
use Rattle.bidi_display.specs.DisplayedLine.{cluster_order}
use Rattle.bidi_display.specs.LineClusters.{is_dropped}
use Rattle.bidi_display.specs.declared.line_char.LineChar.{LineChar}
use Rattle.bidi_display.specs.declared.line_cluster.LineCluster.{LineCluster}
use Rattle.bidi_display.specs.declared.options.DisplayOptions.{DisplayOptions}

-- the indexes of the characters that are displayed, if the first of these characters has this index
abbrev pub shown_from : DisplayOptions → ℕ → List LineChar → List ℕ
shown_from options at [] = []
shown_from options at (c ∷ cs) =
    if is_dropped options.dropped c then shown_from options (at + 1) cs else at ∷ shown_from options (at + 1) cs

-- those of a cluster of a line with these characters, whose first one has the index `first`
abbrev pub shown_in : DisplayOptions → ℕ → List LineChar → LineCluster → List ℕ
shown_in options first chars k = shown_from options (first + k.chars_start) (slice_range chars k.chars_start k.chars_end)

-- those of the line, from left to right: its clusters in their visual order (L2), each in the order of the text
unfoldable pub shown_order : DisplayOptions → ℕ → List LineChar → List LineCluster → List ℕ
shown_order options first chars clusters =
    flat_map (λ indexes. indexes) (at_indexes [] (map (shown_in options first chars) clusters) (cluster_order clusters))

-- the place of a character that is not displayed: the maximum of a usize
abbrev pub nowhere : ℕ
nowhere = 0xFFFFFFFFFFFFFFFF

-- the place of the j-th character in an order, whose first entry has the place `at`
abbrev pub place_from : ℕ → List ℕ → ℕ → ℕ
place_from at [] j = nowhere
place_from at (k ∷ ks) j = if k == j then at else place_from (at + 1) ks j

-- the place of each of so many characters
abbrev pub places_of : List ℕ → ℕ → List ℕ
places_of order count = map (place_from 0 order) (between 0 count)
