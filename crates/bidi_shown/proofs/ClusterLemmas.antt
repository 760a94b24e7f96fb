-- The clusters of a text follow one another, and cut no character.
use Rattle.bidi_base.proofs.Common.{true, ℕ, ◌+◌, ◌<◌, ◌≤◌, zero, suc, List, [], ◌∷◌, length, map, drop, get_or, arith, IsUtf8, IsCharBoundary, Source, All-head, All-tail, ⊤, All}
use Rattle.unicode_segmentation.specs.Grapheme.{graphemes, is_grapheme_break}
use Rattle.unicode_segmentation.specs.Segments.{with_offsets}
use Rattle.unicode_segmentation.proofs.SegmentsLemmas.{IsPieceOf, All-IsPieceOf}
use Rattle.bidi_shown.specs.Bounds.{IsRangeOf}
use Rattle.bidi_shown.specs.Clusters.{cluster_at, clusters_of}
use Rattle.bidi_shown.specs.declared.cluster.Cluster.{Cluster}

-- clusters that follow one another, the first not before an offset, whose ends cut no character
abbrev pub ArePlaced : List ℕ → ℕ → List Cluster → Type 0
ArePlaced text at [] = ⊤
ArePlaced text at (k ∷ ks) = (at ≤ k.start) × (k.start ≤ k.end) × IsCharBoundary text k.start × IsCharBoundary text k.end × ArePlaced text k.end ks

-- the first may be before
pub ArePlaced-sooner : (text : List ℕ) (at sooner : ℕ) (ks : List Cluster) → sooner ≤ at → ArePlaced text at ks → ArePlaced text sooner ks
ArePlaced-sooner text at sooner [] before placed = placed
ArePlaced-sooner text at sooner (k ∷ ks) before placed = (omega (arith, placed.0), placed.1, placed.2, placed.3, placed.4)

-- the clusters from the n-th on
pub ArePlaced-drop : (text : List ℕ) (at n : ℕ) (ks : List Cluster) → ArePlaced text at ks → ArePlaced text at (drop n ks)
ArePlaced-drop text at zero ks placed = placed
ArePlaced-drop text at (suc n) [] placed = placed
ArePlaced-drop text at (suc n) (k ∷ ks) placed =
    ArePlaced-drop text at n ks (ArePlaced-sooner text k.end at ks (omega (arith, placed.0, placed.1)) placed.4)

-- the end of the i-th
pub ArePlaced-end : (text : List ℕ) (at i : ℕ) (ks : List Cluster) (k : Cluster) → ArePlaced text at ks → i < length ks → (at ≤ (get_or ks i k).end) × IsCharBoundary text (get_or ks i k).end
ArePlaced-end text at i [] k placed within = absurd (omega arith)
ArePlaced-end text at zero (j ∷ ks) k placed within = (omega (arith, placed.0, placed.1), placed.3)
ArePlaced-end text at (suc i) (j ∷ ks) k placed within =
    let later = ArePlaced-end text j.end i ks k placed.4 (omega arith) in
    (omega (arith, placed.0, placed.1, later.0), later.1)

-- the start of the first
pub ArePlaced-start : (text : List ℕ) (at : ℕ) (ks : List Cluster) (k : Cluster) → ArePlaced text at ks → 0 < length ks
    → IsCharBoundary text (get_or ks 0 k).start × ArePlaced text (get_or ks 0 k).start ks
ArePlaced-start text at [] k placed some = absurd (omega arith)
ArePlaced-start text at (j ∷ ks) k placed some = (placed.2, (omega arith, placed.1, placed.2, placed.3, placed.4))

-- the line from the first to the i-th
pub IsRangeOf-line : (text : List ℕ) (at i : ℕ) (ks : List Cluster) (first last : Cluster) → ArePlaced text at ks → i < length ks
    → IsRangeOf text (record { start = (get_or ks 0 first).start; end = (get_or ks i last).end })
IsRangeOf-line text at i ks first last placed within =
    let start = ArePlaced-start text at ks first placed (omega arith) in
    let end = ArePlaced-end text (get_or ks 0 first).start i ks last start.1 within in
    record { start = start.0; end = end.1; ordered = end.0 }

from_pieces : (source : Source) (text : List ℕ) (at : ℕ) (pieces : List (List ℕ)) → All (IsPieceOf text) (with_offsets at pieces) → ArePlaced text at (map (cluster_at source) (with_offsets at pieces))
unfolding with_offsets
from_pieces source text at [] whole = tt
from_pieces source text at (p ∷ ps) whole =
    let here = All-head (IsPieceOf text) (at, p) (with_offsets (at + length p) ps) whole in
    (omega arith, omega arith, here.start, here.end, from_pieces source text (at + length p) ps (All-tail (IsPieceOf text) (at, p) (with_offsets (at + length p) ps) whole))

pub clusters_of-placed : (source : Source) (text : List ℕ) → IsUtf8 text → ArePlaced text 0 (clusters_of source text)
unfolding clusters_of
clusters_of-placed source text utf8 = from_pieces source text 0 (graphemes true text) (All-IsPieceOf (is_grapheme_break true) text utf8)
