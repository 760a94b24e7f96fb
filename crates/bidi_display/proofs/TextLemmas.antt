-- The text of a displayed line, cluster by cluster.
use Rattle.bidi_base.proofs.Common.{◌≡◌, ℕ, ◌+◌, ◌<◌, ◌≤◌, List, [], ◌∷◌, ◌++◌, length, map, flat_map, get_or, take, take_more, map-append, flat_map-append, get_or-map, encode_utf8, append-nil, sym, ap, ◌∙◌, arith, slice_range, at_indexes}
use Rattle.bidi_lines.proofs.Pieces.{at_indexes-map}
use Rattle.bidi_display.proofs.ClusterRanges.{chars_not_empty-at, chars_within-at}
use Rattle.bidi_display.specs.DisplayedLine.{HaveCharsWithin}
use Rattle.bidi_display.specs.Shown.{cluster_text, displayed_part}
use Rattle.bidi_display.specs.declared.line_char.LineChar.{LineChar}
use Rattle.bidi_display.specs.declared.line_cluster.LineCluster.{LineCluster}
use Rattle.bidi_display.specs.declared.options.DisplayOptions.{DisplayOptions}

-- the texts up to a visual index, and one more
texts-more : (texts : List (List ℕ)) (order : List ℕ) (v : ℕ) → v < length order
    → flat_map encode_utf8 (flat_map (λ (text : List ℕ). text) (at_indexes [] texts (take (v + 1) order)))
    ≡ flat_map encode_utf8 (flat_map (λ (text : List ℕ). text) (at_indexes [] texts (take v order))) ++ flat_map encode_utf8 (get_or texts (get_or order v 0) [])
texts-more texts order v fits = grind (
  arith,
  take_more order v 0 fits,
  at_indexes-map [] texts (take (v + 1) order),
  at_indexes-map [] texts (take v order),
  map-append (λ (p : ℕ). get_or texts p []) (take v order) (get_or order v 0 ∷ []),
  flat_map-append (λ (text : List ℕ). text),
  flat_map-append encode_utf8,
  append-nil (get_or texts (get_or order v 0) []),
)

module _ (chars : List LineChar) (clusters : List LineCluster) (k : ℕ) (x : LineCluster) (fits : k < length clusters) (read : x ≡ get_or clusters k x) where
  pub chars-ordered : HaveCharsWithin (length chars) clusters → x.chars_start ≤ x.chars_end
  chars-ordered h = omega (arith, chars_not_empty-at (length chars) clusters k x h fits read)

  pub chars-within : HaveCharsWithin (length chars) clusters → x.chars_end ≤ length chars
  chars-within h = chars_within-at (length chars) clusters k x h fits read

  -- a step of the pass over the clusters
  pub written-more : (options : DisplayOptions) (mirrored_of : ℕ → ℕ) (order : List ℕ) (v : ℕ) → v < length order → get_or order v 0 ≡ k
      → flat_map encode_utf8 (flat_map (λ (text : List ℕ). text) (at_indexes [] (map (cluster_text options mirrored_of chars) clusters) (take (v + 1) order)))
      ≡ flat_map encode_utf8 (flat_map (λ (text : List ℕ). text) (at_indexes [] (map (cluster_text options mirrored_of chars) clusters) (take v order)))
      ++ flat_map encode_utf8 (displayed_part options mirrored_of (slice_range chars x.chars_start x.chars_end))
  written-more options mirrored_of order v within at =
      let texts = map (cluster_text options mirrored_of chars) clusters in
      let here : get_or texts (get_or order v 0) [] ≡ cluster_text options mirrored_of chars x =
      ap (λ (i : ℕ). get_or texts i []) at ∙ get_or-map (cluster_text options mirrored_of chars) clusters k x [] fits ∙ ap (cluster_text options mirrored_of chars) (sym read) in
      texts-more texts order v within
      ∙ ap (λ (text : List ℕ). flat_map encode_utf8 (flat_map (λ (text : List ℕ). text) (at_indexes [] texts (take v order))) ++ flat_map encode_utf8 text) here
