-- Laws of the clusters: on UTF-8 they are those of `graphemes(true)` of the kit.
use Rattle.bidi_base.proofs.Common.{◌≡◌, ℕ, ◌+◌, true, List, [], ◌∷◌, length, map, refl, sym, ap, ◌∙◌, chars, encode_utf8_all, len_utf8}
use Rattle.bidi_base.specs.Paragraphs.{ranges_from}
use Rattle.bidi_base.specs.Texts.{Text, utf8}
use Rattle.bidi_text.proofs.StrLemmas.{text_len-encodes}
use Rattle.unicode_segmentation.specs.Grapheme.{graphemes}
use Rattle.unicode_segmentation.specs.Segments.{segments, with_offsets}
use Rattle.bidi_display.specs.Clusters.{clusters, cluster_ranges}

-- the clusters of a text in UTF-8, each as its bytes
pub graphemes-clusters : (text : List ℕ) → graphemes true text ≡ map encode_utf8_all (clusters (chars text))
unfolding segments clusters
graphemes-clusters text = refl

-- a cluster with its offset, as the range of its bytes
abbrev pub byte_range : ℕ × List ℕ → ℕ × ℕ
byte_range p = (p.0, p.0 + length p.1)

ranges_from-with_offsets : (at : ℕ) (pieces : List (List ℕ)) → ranges_from len_utf8 at pieces ≡ map byte_range (with_offsets at (map encode_utf8_all pieces))
unfolding with_offsets
ranges_from-with_offsets at [] = refl
ranges_from-with_offsets at (p ∷ ps) = rw (text_len-encodes p) (ap (λ rs. (at, at + length (encode_utf8_all p)) ∷ rs) (ranges_from-with_offsets (at + length (encode_utf8_all p)) ps))

-- their ranges of bytes are those of `grapheme_indices(true)`
pub cluster_ranges-graphemes : (text : List ℕ) (t : Text utf8) → t.chars ≡ chars text → cluster_ranges t ≡ map byte_range (with_offsets 0 (graphemes true text))
cluster_ranges-graphemes text t e =
    ap (λ cs. ranges_from len_utf8 0 (clusters cs)) e ∙ ranges_from-with_offsets 0 (clusters (chars text)) ∙ ap (λ ps. map byte_range (with_offsets 0 ps)) (sym (graphemes-clusters text))
