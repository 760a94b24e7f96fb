-- Which columns the ranges of a selection have.
use Rattle.bidi_base.proofs.Common.{◌≡◌, ℕ, suc, ◌<◌, ◌≤◌, Bool, true, false, ◌&&◌, ◌||◌, nat_le, nat_lt, eqb, eqb-true, le-ltb, or_assoc, or-false, List, [], ◌∷◌, length, map, filter, max, min, get_or, get_or-map, get_or_default, list_any, Run, ⊤, ◌⊎◌, inl, inr, cases_Bool, refl, sym, ap, ap₂, ◌∙◌, arith, nat_tests}
use Rattle.bidi_display.specs.Carets.{LaidOutLine, before_columns, covers, joined_columns, selected_at, selected_columns}
use Rattle.bidi_display.specs.DisplayedLine.{cluster_order, ends, left_edge, right_edge, starts}
use Rattle.bidi_display.specs.declared.line_cluster.LineCluster.{LineCluster}
use Rattle.bidi_display.proofs.ColumnLemmas.{cluster_order-below, length-cluster_order, no_cluster}
use Rattle.bidi_display.proofs.SelectionLemmas.{AreColumnsFrom, columns_from-ordered, selected_at-is}

-- a column is in a range, and in one of some ranges
abbrev pub has_column : ℕ → Run → Bool
has_column column r = nat_le r.0 column && nat_lt column r.1

abbrev pub have_column : ℕ → List Run → Bool
have_column column ranges = list_any (has_column column) ranges

-- ---- ranges that are joined

abbrev AreOrdered : List Run → Type 0
AreOrdered [] = ⊤
AreOrdered (r ∷ rs) = (r.0 ≤ r.1) × AreOrdered rs

AreOrdered-from_columns : (low : ℕ) (rs : List Run) → AreColumnsFrom low rs → AreOrdered rs
AreOrdered-from_columns low [] h = tt
AreOrdered-from_columns low (r ∷ rs) h = (h.1, AreOrdered-from_columns r.1 rs h.2)

AreOrdered-before : (r : Run) (rs : List Run) → r.0 ≤ r.1 → AreOrdered rs → AreOrdered (before_columns r rs)
AreOrdered-before r [] order h = (order, tt)
AreOrdered-before r (s ∷ rs) order h = elim (cases_Bool (eqb r.1 s.0)) [
  | inl touches ↦ rw touches (omega (arith, order, h.0, eqb-true _ _ touches), h.1)
  | inr apart ↦ rw apart (order, h)
]

AreOrdered-joined : (rs : List Run) → AreOrdered rs → AreOrdered (joined_columns rs)
AreOrdered-joined [] h = tt
AreOrdered-joined (r ∷ rs) h = elim (cases_Bool (eqb r.0 r.1)) [
  | inl empty ↦ rw empty (AreOrdered-joined rs h.1)
  | inr some ↦ rw some (AreOrdered-before r (joined_columns rs) h.0 (AreOrdered-joined rs h.1))
]

module _ (column : ℕ) where
  touching-is : (a b c d : ℕ) → a ≤ b → b ≡ c → c ≤ d → has_column column (a, d) ≡ (has_column column (a, b) || has_column column (c, d))
  touching-is a b c d first e second = grind (arith, nat_tests)

  have_column-before : (r : Run) (rs : List Run) → r.0 ≤ r.1 → AreOrdered rs → have_column column (before_columns r rs) ≡ (has_column column r || have_column column rs)
  have_column-before r [] order h = refl
  have_column-before r (s ∷ rs) order h = elim (cases_Bool (eqb r.1 s.0)) [
    | inl touches ↦
        rw touches (ap (λ t. t || have_column column rs) (touching-is r.0 r.1 s.0 s.1 order (eqb-true _ _ touches) h.0) ∙ or_assoc (has_column column r) (has_column column s) (have_column column rs))
    | inr apart ↦ rw apart refl
  ]

  empty-has_none : (r : Run) → r.0 ≡ r.1 → has_column column r ≡ false
  empty-has_none r e = grind (arith, nat_tests)

  have_column-joined : (rs : List Run) → AreOrdered rs → have_column column (joined_columns rs) ≡ have_column column rs
  have_column-joined [] h = refl
  have_column-joined (r ∷ rs) h = elim (cases_Bool (eqb r.0 r.1)) [
    | inl empty ↦ rw (empty, empty-has_none r (eqb-true _ _ empty)) (have_column-joined rs h.1)
    | inr some ↦
        rw some (have_column-before r (joined_columns rs) h.0 (AreOrdered-joined rs h.1) ∙ ap (λ t. has_column column r || t) (have_column-joined rs h.1))
  ]

  have_column-filter : (f : ℕ → Run) (p : ℕ → Bool) (ks : List ℕ) → have_column column (map f (filter p ks)) ≡ list_any (λ k. p k && has_column column (f k)) ks
  have_column-filter f p [] = refl
  have_column-filter f p (k ∷ ks) = elim (cases_Bool (p k)) [
    | inl taken ↦ rw taken (ap (λ t. has_column column (f k) || t) (have_column-filter f p ks))
    | inr left_out ↦ rw left_out (have_column-filter f p ks)
  ]

-- ---- tests of elements

list_any-agree : (p q : ℕ → Bool) (ks : List ℕ) → ((v : ℕ) → v < length ks → p (get_or ks v 0) ≡ q (get_or ks v 0)) → list_any p ks ≡ list_any q ks
list_any-agree p q [] same = refl
list_any-agree p q (k ∷ ks) same = ap₂ (λ s t. s || t) (same 0 (omega arith)) (list_any-agree p q ks (λ v below. same (suc v) (omega arith)))

swap_or : (a b c d : Bool) → ((a || b) || (c || d)) ≡ ((a || c) || (b || d))
swap_or true b c d = refl
swap_or false true true d = refl
swap_or false true false d = refl
swap_or false false c d = refl

list_any-or : (p q : ℕ → Bool) (ks : List ℕ) → list_any (λ k. p k || q k) ks ≡ (list_any p ks || list_any q ks)
list_any-or p q [] = refl
list_any-or p q (k ∷ ks) = ap (λ t. (p k || q k) || t) (list_any-or p q ks) ∙ swap_or (p k) (q k) (list_any p ks) (list_any q ks)

and_of_or : (a b c : Bool) → ((a || b) && c) ≡ ((a && c) || (b && c))
and_of_or true b true = refl
and_of_or true true false = refl
and_of_or true false false = refl
and_of_or false b c = refl

-- ---- the columns of a selection

module _ (line : LaidOutLine) where
  -- a column is in a selection if a selected cluster covers it
  pub selected-have_column : (start end column : ℕ)
      → have_column column (selected_columns line start end) ≡ list_any (λ k. selected_at line start end k && covers line column k) (cluster_order line.clusters)
  unfolding selected_columns
  selected-have_column start end column =
      have_column-joined column _ (AreOrdered-from_columns _ _ (columns_from-ordered line start end (length line.clusters) 0 (omega arith)))
      ∙ have_column-filter column (λ k. (left_edge line.clusters k, right_edge line.clusters k)) (selected_at line start end) (cluster_order line.clusters)

  module _ (a b c : ℕ) (first : a ≤ b) (second : b ≤ c) where
    parts-of_cluster : (s e : ℕ) → s < e → (e ≤ b) ⊎ (b ≤ s) → nat_lt (max s a) (min e c) ≡ (nat_lt (max s a) (min e b) || nat_lt (max s b) (min e c))
    parts-of_cluster s e some (inl left) =
        let none = le-ltb (max s b) (min e c) (omega arith) in
        let whole : min e c ≡ min e b = omega arith in
        rw (none, whole) (sym (or-false _))
    parts-of_cluster s e some (inr right) =
        let none = le-ltb (max s a) (min e b) (omega arith) in
        let whole : max s a ≡ max s b = omega arith in
        rw (none, whole) refl

    parts-of_selected : (k : ℕ) → k < length line.clusters → get_or (starts line.clusters) k 0 < get_or (ends line.clusters) k 0
        → (get_or (ends line.clusters) k 0 ≤ b) ⊎ (b ≤ get_or (starts line.clusters) k 0) → selected_at line a c k ≡ (selected_at line a b k || selected_at line b c k)
    parts-of_selected k fits some cut =
        let x = get_or line.clusters k no_cluster in
        let read : x ≡ get_or line.clusters k x = get_or_default line.clusters k no_cluster x fits in
        let start = get_or-map (λ (y : LineCluster). y.start) line.clusters k no_cluster 0 fits in
        let end = get_or-map (λ (y : LineCluster). y.end) line.clusters k no_cluster 0 fits in
        rw (selected_at-is line a c k x fits read, selected_at-is line a b k x fits read, selected_at-is line b c k x fits read)
        (parts-of_cluster x.start x.end (rw (start, end) at some) (rw (start, end) at cut))

    pub selected-parts : (column : ℕ) → ((k : ℕ) → k < length line.clusters → get_or (starts line.clusters) k 0 < get_or (ends line.clusters) k 0)
        → ((k : ℕ) → k < length line.clusters → (get_or (ends line.clusters) k 0 ≤ b) ⊎ (b ≤ get_or (starts line.clusters) k 0))
        → have_column column (selected_columns line a c) ≡ (have_column column (selected_columns line a b) || have_column column (selected_columns line b c))
    selected-parts column some cut =
        let order = cluster_order line.clusters in
        selected-have_column a c column
        ∙ list_any-agree _ (λ k. (selected_at line a b k && covers line column k) || (selected_at line b c k && covers line column k)) order (λ v below.
        let k = get_or order v 0 in
        let fits = cluster_order-below line.clusters v (omega (arith, length-cluster_order line.clusters)) in
        ap (λ t. t && covers line column k) (parts-of_selected k fits (some k fits) (cut k fits)) ∙ and_of_or (selected_at line a b k) (selected_at line b c k) (covers line column k))
        ∙ list_any-or (λ k. selected_at line a b k && covers line column k) (λ k. selected_at line b c k && covers line column k) order
        ∙ sym (ap₂ (λ s t. s || t) (selected-have_column a b column) (selected-have_column b c column))
