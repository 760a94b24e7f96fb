-- The clusters of a line have characters of it.
use Rattle.bidi_base.proofs.Common.{◌≡◌, ℕ, ◌+◌, ◌<◌, ◌≤◌, zero, suc, Bool, true, false, cond, List, [], ◌∷◌, length, get_or, get_or-map, slice_index, ⊤, subst, refl, sym, ap, ◌∙◌, arith, onto_first}
use Rattle.bidi_display.specs.DisplayedLine.{HaveCharsWithin, add_columns, chars_ends, chars_starts, cluster_of, cluster_width, clusters_from, clusters_of}
use Rattle.bidi_display.specs.LineClusters.{begins_cluster, clusters_after, displayed_before, line_clusters}
use Rattle.bidi_display.specs.declared.line_char.LineChar.{LineChar}
use Rattle.bidi_display.specs.declared.line_cluster.LineCluster.{LineCluster}
use Rattle.bidi_display.specs.declared.options.DisplayOptions.{DisplayOptions}

-- how many characters clusters have
abbrev chars_in : List (List LineChar) → ℕ
chars_in [] = 0
chars_in (k ∷ ks) = length k + chars_in ks

abbrev AreNotEmpty : List (List LineChar) → Type 0
AreNotEmpty [] = ⊤
AreNotEmpty (k ∷ ks) = (0 < length k) × AreNotEmpty ks

chars_in-onto_first : (c : LineChar) (ks : List (List LineChar)) → chars_in (onto_first c ks) ≡ chars_in ks + 1
chars_in-onto_first c [] = refl
chars_in-onto_first c (k ∷ ks) = omega arith

AreNotEmpty-onto_first : (c : LineChar) (ks : List (List LineChar)) → AreNotEmpty ks → AreNotEmpty (onto_first c ks)
AreNotEmpty-onto_first c [] h = (omega arith, h)
AreNotEmpty-onto_first c (k ∷ ks) h = (omega arith, h.1)

-- a character before clusters, as one of its own or in the first
abbrev with_char : Bool → LineChar → List (List LineChar) → List (List LineChar)
with_char begins c ks = cond begins ((c ∷ []) ∷ ks) (onto_first c ks)

chars_in-with_char : (begins : Bool) (c : LineChar) (ks : List (List LineChar)) → chars_in (with_char begins c ks) ≡ chars_in ks + 1
chars_in-with_char true c ks = omega arith
chars_in-with_char false c ks = chars_in-onto_first c ks

AreNotEmpty-with_char : (begins : Bool) (c : LineChar) (ks : List (List LineChar)) → AreNotEmpty ks → AreNotEmpty (with_char begins c ks)
AreNotEmpty-with_char true c ks h = (omega arith, h)
AreNotEmpty-with_char false c ks h = AreNotEmpty-onto_first c ks h

-- ---- clusters within this many characters

chars_not_empty-cons : (k : LineCluster) (ks : List LineCluster) (j : ℕ) → k.chars_start < k.chars_end
    → ((i : ℕ) → i < length ks → slice_index (chars_starts ks) i < slice_index (chars_ends ks) i) → j < length (k ∷ ks)
    → slice_index (chars_starts (k ∷ ks)) j < slice_index (chars_ends (k ∷ ks)) j
chars_not_empty-cons k ks zero some below lt = some
chars_not_empty-cons k ks (suc j) some below lt = below j (omega arith)

chars_within-cons : (count : ℕ) (k : LineCluster) (ks : List LineCluster) (j : ℕ) → k.chars_end ≤ count → ((i : ℕ) → i < length ks → slice_index (chars_ends ks) i ≤ count) → j < length (k ∷ ks)
    → slice_index (chars_ends (k ∷ ks)) j ≤ count
chars_within-cons count k ks zero fits below lt = fits
chars_within-cons count k ks (suc j) fits below lt = below j (omega arith)

pub HaveCharsWithin-none : (count : ℕ) (ks : List LineCluster) → ks ≡ [] → HaveCharsWithin count ks
HaveCharsWithin-none count ks none = subst (HaveCharsWithin count) (sym none) (record { not_empty = λ j lt. absurd (omega arith); within = λ j lt. absurd (omega arith) })

HaveCharsWithin-cons : (count : ℕ) (k : LineCluster) (ks : List LineCluster) → k.chars_start < k.chars_end → k.chars_end ≤ count → HaveCharsWithin count ks → HaveCharsWithin count (k ∷ ks)
HaveCharsWithin-cons count k ks some fits h = record {
  not_empty = λ j lt. chars_not_empty-cons k ks j some h.not_empty lt;
  within = λ j lt. chars_within-cons count k ks j fits h.within lt;
}

-- the i-th cluster
pub chars_not_empty-at : (count : ℕ) (ks : List LineCluster) (i : ℕ) (k : LineCluster) → HaveCharsWithin count ks → i < length ks → k ≡ get_or ks i k → k.chars_start < k.chars_end
chars_not_empty-at count ks i k h lt is =
    let start = get_or-map (λ x. x.chars_start) ks i k 0 lt in
    let end = get_or-map (λ x. x.chars_end) ks i k 0 lt in
    omega (arith, h.not_empty i lt, start, end, ap (λ x. x.chars_start) is, ap (λ x. x.chars_end) is)

pub chars_within-at : (count : ℕ) (ks : List LineCluster) (i : ℕ) (k : LineCluster) → HaveCharsWithin count ks → i < length ks → k ≡ get_or ks i k → k.chars_end ≤ count
chars_within-at count ks i k h lt is =
    let end = get_or-map (λ x. x.chars_end) ks i k 0 lt in
    omega (arith, h.within i lt, end, ap (λ x. x.chars_end) is)

-- ---- the clusters of a line

module _ (options : DisplayOptions) where
  clusters_after-chars : (before chars : List LineChar) → chars_in (clusters_after options before chars) ≡ length chars
  clusters_after-chars before [] = refl
  clusters_after-chars before (c ∷ cs) =
      let read = displayed_before options.dropped before c in
      chars_in-with_char (begins_cluster options read cs) c (clusters_after options read cs) ∙ ap (λ n. n + 1) (clusters_after-chars read cs) ∙ omega arith

  clusters_after-not_empty : (before chars : List LineChar) → AreNotEmpty (clusters_after options before chars)
  clusters_after-not_empty before [] = tt
  clusters_after-not_empty before (c ∷ cs) =
      let read = displayed_before options.dropped before c in
      AreNotEmpty-with_char (begins_cluster options read cs) c (clusters_after options read cs) (clusters_after-not_empty read cs)

  module _ (width_of : List ℕ → ℕ) where
    clusters_from-within : (at column : ℕ) (ks : List (List LineChar)) → AreNotEmpty ks → HaveCharsWithin (at + chars_in ks) (clusters_from options width_of at column ks)
    clusters_from-within at column [] h = HaveCharsWithin-none (at + 0) [] refl
    clusters_from-within at column (k ∷ ks) h =
        let rest = clusters_from options width_of (at + length k) (add_columns column (cluster_width options width_of column k)) ks in
        let count : at + length k + chars_in ks ≡ at + (length k + chars_in ks) = omega arith in
        let more = clusters_from-within (at + length k) (add_columns column (cluster_width options width_of column k)) ks h.1 in
        HaveCharsWithin-cons (at + chars_in (k ∷ ks)) (cluster_of options width_of at column k) rest (omega (arith, h.0)) (omega arith) (subst (λ n. HaveCharsWithin n rest) count more)

    pub clusters_of-within : (chars : List LineChar) → HaveCharsWithin (length chars) (clusters_of options width_of chars)
    unfolding clusters_of line_clusters
    clusters_of-within chars =
        subst (λ n. HaveCharsWithin n (clusters_from options width_of 0 0 (clusters_after options [] chars))) (omega (arith, clusters_after-chars [] chars))
        (clusters_from-within 0 0 (clusters_after options [] chars) (clusters_after-not_empty [] chars))

    -- the same of lists that are these
    pub HaveCharsWithin-found : (chars found : List LineChar) (ks : List LineCluster) → found ≡ chars → ks ≡ clusters_of options width_of chars → HaveCharsWithin (length found) ks
    HaveCharsWithin-found chars found ks of_chars of_clusters =
        subst (HaveCharsWithin (length found)) (sym of_clusters) (subst (λ cs. HaveCharsWithin (length cs) (clusters_of options width_of chars)) (sym of_chars) (clusters_of-within chars))
