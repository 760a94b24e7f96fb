-- The grapheme clusters of a text: the extended ones of UAX #29, by the rules GB1 to GB999 of the kit.
use Rattle.std.specs.Prelude.{ℕ, Bool, true, List, [], take, drop, reverse}
use Rattle.bidi_base.specs.Paragraphs.{ranges_from}
use Rattle.bidi_base.specs.Texts.{Encoding, Text, char_index}
use Rattle.unicode_segmentation.specs.Grapheme.{is_grapheme_break}
use Rattle.unicode_segmentation.specs.Segments.{cut}

-- a cluster begins at the k-th character, or the text ends before it
abbrev pub is_cluster_boundary : List ℕ → ℕ → Bool
is_cluster_boundary chars k = is_grapheme_break true (reverse (take k chars)) (drop k chars)

-- the clusters of a text, each as its characters
unfoldable pub clusters : List ℕ → List (List ℕ)
clusters chars = cut (is_grapheme_break true) [] chars []

-- the clusters from the k-th character on, if one begins at it
unfoldable pub clusters_from : List ℕ → ℕ → List (List ℕ)
clusters_from chars k = cut (is_grapheme_break true) (reverse (take k chars)) (drop k chars) []

-- the ranges of code units of the clusters of a text
abbrev pub cluster_ranges : {e : Encoding} → Text e → List (ℕ × ℕ)
cluster_ranges {e = e} text = ranges_from e.len_of 0 (clusters text.chars)

-- those from an index on, if a cluster begins there
abbrev pub cluster_ranges_from : {e : Encoding} → Text e → ℕ → List (ℕ × ℕ)
cluster_ranges_from {e = e} text u = ranges_from e.len_of u (clusters_from text.chars (char_index text u))
