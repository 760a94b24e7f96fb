-- Bracket pairs never cross: each stands after those that open before it, or within them.
use Rattle.bidi_base.proofs.Common.{◌≡◌, ℕ, zero, suc, ◌+◌, ◌<◌, true, false, ◌&&◌, eqb, ltb, List, [], ◌∷◌, ◌++◌, length, get_or, find, filter_map, Option, Some, subst, ◌⊎◌, arith, inl, inr}
use Rattle.bidi_base.proofs.Common.{add-one, rules, All, range_with_len, AllByRecursion, cases_lt, get_or_append_left, get_or-append_seam, All-append, All-cons, All-nil, All-from_recursion}
use Rattle.bidi_base.proofs.Common.{list_any_at, AllPairs-cons, BidiClass, BidiMatchedOpeningBracket, bracket_at, is_opening, is_closing, is_taken, is_available, partner, closed_pairs, pairs_of}
use Rattle.bidi_base.proofs.Common.{bracket_pairs, IsBehindOrWithin, AreNestedPairs, closed_before, length-append}
use Rattle.std.specs.List.{AllPairs}
use Rattle.bidi_base.proofs.PlacesLemmas.{find_last-range_with_len}
use Rattle.bidi_base.proofs.PairsLemmas.{closed_before-more, with_closing-none, with_closing-other, with_closing-pair, bracket_pairs-in_order}
use Rattle.bidi_base.proofs.Lists.{find-passes, find-index, cases_Option}

-- pairs found one at an index, where each stands rightly to those before
module _ (f : ℕ → Option (ℕ × ℕ)) (apart : (i m : ℕ) (p q : ℕ × ℕ) → f i ≡ Some p → f m ≡ Some q → i < m → IsBehindOrWithin p q) where
  later_found : (i low n : ℕ) (p : ℕ × ℕ) → f i ≡ Some p → i < low → AllByRecursion (IsBehindOrWithin p) (filter_map f (range_with_len low n))
  later_found i low zero p e order = tt
  later_found i low (suc n) p e order = grind (arith, later_found i (low + 1) n p e, apart i low p)

  found_nested : (low n : ℕ) → AllPairs IsBehindOrWithin (filter_map f (range_with_len low n))
  found_nested low zero = λ i j d order fits. absurd (omega arith)
  found_nested low (suc n) = elim (cases_Option (f low)) [
    | inl none ↦ rw none (found_nested (low + 1) n)
    | inr p ↦ rw p.1 (AllPairs-cons IsBehindOrWithin p.0 _ (All-from_recursion (IsBehindOrWithin p.0) _ (later_found low (low + 1) n p.0 p.1 (omega arith))) (found_nested (low + 1) n))
  ]

module _ (brackets : List (Option BidiMatchedOpeningBracket)) where
  -- what is known of a pair that is closed before j
  pub record IsClosedPair (j : ℕ) (p : ℕ × ℕ) : Type 0 where
    pub order : p.0 < p.1
    pub below : p.1 < j
    pub opening : is_opening (bracket_at brackets p.0) ≡ true
    pub closing : is_closing (bracket_at brackets p.1) ≡ true

  -- at j nothing is closed, or a pair whose opening waited
  record Closes (j i : ℕ) : Type 0 where
    order : i < j
    waits : is_available brackets (closed_before brackets j) j i ≡ true
    closing : is_closing (bracket_at brackets j) ≡ true
    pairs : closed_before brackets (j + 1) ≡ closed_before brackets j ++ (i, j) ∷ []

  closes : (j : ℕ) → (closed_before brackets (j + 1) ≡ closed_before brackets j) ⊎ ((i : ℕ) × Closes j i)
  unfolding partner
  closes j = grind (arith, closed_before-more, with_closing-none, find_last-range_with_len, with_closing-pair, with_closing-other)

  waiting-opening : (pairs : List (ℕ × ℕ)) (j i : ℕ) → is_available brackets pairs j i ≡ true → is_opening (bracket_at brackets i) ≡ true
  waiting-opening pairs j i h = grind arith

  pub closed_before-pairs : (j : ℕ) → All (IsClosedPair j) (closed_before brackets j)
  closed_before-pairs zero = All-nil (IsClosedPair 0)
  closed_before-pairs (suc j) =
      let before = closed_before brackets j in
      let later : All (IsClosedPair (j + 1)) before = λ k d fits. grind (arith, closed_before-pairs j k d fits) in
      subst (λ (n : ℕ). All (IsClosedPair n) (closed_before brackets n)) (add-one j) (elim (closes j) [
        | inl same ↦ simp same later
        | inr pair ↦
            let i = pair.0 in
            let new : IsClosedPair (j + 1) (i, j) = grind (arith, pair.1, waiting-opening before j i) in
            simp pair.1.pairs (All-append (IsClosedPair (j + 1)) before ((i, j) ∷ []) later (All-cons (IsClosedPair (j + 1)) (i, j) [] new (All-nil (IsClosedPair (j + 1)))))
      ])

  -- two pairs never cross
  abbrev pub AreApart : List (ℕ × ℕ) → Type 0
  AreApart pairs = (k m : ℕ) → k < length pairs → m < length pairs → (get_or pairs k (0, 0)).0 < (get_or pairs m (0, 0)).0 → IsBehindOrWithin (get_or pairs k (0, 0)) (get_or pairs m (0, 0))

  -- the pair that j closes and one that was closed before
  free_at : (pairs : List (ℕ × ℕ)) (j i k : ℕ) → is_taken pairs j i ≡ false → is_opening (bracket_at brackets i) ≡ true → k < length pairs
      → IsClosedPair j (get_or pairs k (0, 0)) → (get_or pairs k (0, 0)).0 < i → (get_or pairs k (0, 0)).1 < i
  free_at pairs j i k free opening fits h order = grind (arith, list_any_at)

  apart-more : (j i : ℕ) → Closes j i → AreApart (closed_before brackets j) → AreApart (closed_before brackets j ++ (i, j) ∷ [])
  apart-more j i h earlier k m fits fits1 order = let before : List (ℕ × ℕ) = closed_before brackets j in
      let left = get_or_append_left before ((i, j) ∷ []) (0, 0) in
      let last = get_or-append_seam before (i, j) [] (0, 0) in
      let long = length-append before ((i, j) ∷ []) in
      elim (cases_lt k (length before)) [
        | inl a ↦ elim (cases_lt m (length before)) [
          | inl b ↦ grind (arith, left k a, left m b, earlier k m a b)
          | inr b ↦ grind (arith, left k a, last, long, h.waits, free_at before j i k, waiting-opening before j i h.waits, closed_before-pairs j k (0, 0) a)
        ]
        | inr a ↦ elim (cases_lt m (length before)) [
          | inl b ↦ grind (arith, left m b, last, long, closed_before-pairs j m (0, 0) b)
          | inr b ↦ grind (arith, last, long)
        ]
      ]

  pub closed_before-apart : (j : ℕ) → AreApart (closed_before brackets j)
  closed_before-apart zero = λ k m fits fits1 order. absurd (omega arith)
  closed_before-apart (suc j) = grind (arith, closes j, closed_before-apart j, apart-more j)

  -- those that are found at two indexes
  apart-found : (pairs : List (ℕ × ℕ)) (limit : ℕ) → AreApart pairs → (i m : ℕ) (p q : ℕ × ℕ)
      → find (λ (r : ℕ × ℕ). eqb r.0 i && ltb r.1 limit) pairs ≡ Some p → find (λ (r : ℕ × ℕ). eqb r.0 m && ltb r.1 limit) pairs ≡ Some q → i < m
      → IsBehindOrWithin p q
  apart-found pairs limit apart i m p q e g order = let t : ℕ → ℕ × ℕ → _ = λ k r. eqb r.0 k && ltb r.1 limit in
      grind (arith, find-index (t i) pairs p (0, 0) e, find-index (t m) pairs q (0, 0) g, find-passes (t i) pairs p e, find-passes (t m) pairs q g)

  -- the pairs of a list of brackets nest
  pub pairs_of-nested : AllPairs IsBehindOrWithin (pairs_of brackets)
  unfolding pairs_of closed_pairs
  pairs_of-nested = search (rules, found_nested, apart-found, closed_before-apart)

-- the pairs of a sequence nest within it
pub bracket_pairs-nested : (classes : List BidiClass) (brackets : List (Option BidiMatchedOpeningBracket))
    → length brackets ≡ length classes → AreNestedPairs (length classes) (bracket_pairs classes brackets)
unfolding bracket_pairs
bracket_pairs-nested classes brackets h = grind (arith, bracket_pairs-in_order, pairs_of-nested)
