-- What the annex's reversals leave: each pair stands as the levels between its items ask.
use Rattle.bidi_base.proofs.Common.{◌≡◌, ℕ, zero, suc, ◌+◌, ◌-◌, ◌<◌, ◌≤◌, fold, get_or, nat_lt, max, List, [], ◌∷◌, ◌++◌, length, AllPairs, Contains, arith, ◌⊎◌, inl, inr, eqb-true, le_refl, ap}
use Rattle.bidi_base.proofs.Common.{min, add-zero, suc-add, cases_lt, cases_Bool, IsPermutation, All-cons, All-nil, All-tail, filter_passes, AllPairs-cons, length-range_with_len}
use Rattle.bidi_base.proofs.Common.{get_or-range_with_len, All-permutation, Contains-permutation, IsPermutation-refl, IsPermutation-trans, IsPermutation-cons, IsPermutation-append_right}
use Rattle.bidi_base.proofs.Common.{IsPermutation-middle, is_odd, indexes, least, order_by_reversals, filter, All, append-nil}
use Rattle.std.proofs.Math.Nat.{add-suc}
use Rattle.bidi_base.specs.Order.{reversed_after, reversals, highest, lowest_odd}
use Rattle.bidi_laws.proofs.OrderLemmas.{le-least, least_between-le}
use Rattle.bidi_laws.proofs.VisualOrderLemmas.{contains_index, all_below}
use Rattle.bidi_lines.specs.ArrangedItems.{IsEven, IsOdd, StandsLeft}
use Rattle.bidi_lines.proofs.Least.{least_between-at, least_between-has, least-has}
use Rattle.bidi_lines.proofs.Pieces.{AllPairs-head, AllPairs-tail, AllPairs-append}

-- a pass moves items, and neither drops nor repeats one
pass-permutation : (levels : List ℕ) (t : ℕ) (line held : List ℕ) → IsPermutation (held ++ line) (reversed_after levels t held line)
pass-permutation levels t [] held = rw (append-nil held) (IsPermutation-refl held)
pass-permutation levels t (x ∷ line) held =
    grind (arith, IsPermutation-append_right held (x ∷ line), IsPermutation-cons x line, pass-permutation levels t line [], IsPermutation-trans (held ++ x ∷ line), IsPermutation-middle held x line, pass-permutation levels t line (x ∷ held))

passes-permutation : (levels : List ℕ) (low count : ℕ) (line : List ℕ) → IsPermutation line (reversals levels low count line)
passes-permutation levels low zero line = IsPermutation-refl line
passes-permutation levels low (suc count) line =
    IsPermutation-trans _ _ _ (pass-permutation levels (low + count) line []) (passes-permutation levels low count (reversed_after levels (low + count) [] line))

pub order_by_reversals-permutation : (levels : List ℕ) → IsPermutation (indexes levels) (order_by_reversals levels)
unfolding order_by_reversals
order_by_reversals-permutation levels = grind (arith, passes-permutation)

-- what is to come is the next item, or comes later
to_come : (i : ℕ) (line : List ℕ) (z : ℕ) → Contains (i ∷ line) z → (i ≡ z) ⊎ Contains line z
to_come i line z (zero, f, e) = inl e
to_come i line z (suc m, f, e) = inr (m, omega arith, e)

-- ---- one pass, of the number t + 1

module _ (levels : List ℕ) (t : ℕ) where
  -- an item at t or below stands by its index
  upwards : (x z : ℕ) → x < length levels → z < length levels → (get_or levels x 0 ≤ t) ⊎ (get_or levels z 0 ≤ t) → StandsLeft levels (suc t) x z → x ≤ z
  upwards x z a b low s = grind (arith, least_between-at)

  -- so two items with such a one between them stay
  stay : (x z y : ℕ) → y < length levels → x ≤ z → z ≤ y → get_or levels z 0 ≤ t → StandsLeft levels t x y
  stay x z y fits a b low = grind (arith, least_between-at)

  -- and two items with none change sides
  change : (x y : ℕ) → x < length levels → y < length levels → ((k : ℕ) → (x ≤ k × k ≤ y) ⊎ (y ≤ k × k ≤ x) → t < get_or levels k 0) → StandsLeft levels (suc t) y x → StandsLeft levels t x y
  change x y a b high s = grind (arith, least_between-le levels x y (suc t), least_between-le levels y x (suc t))

  -- a stretch above t is held, last item first, and `line` is to come; an item at t or below is before them all, or to come
  record IsUnderWay (held line : List ℕ) : Type 0 where
    held_pairs : AllPairs (StandsLeft levels t) held
    line_pairs : AllPairs (StandsLeft levels (suc t)) line
    across : All (λ h. All (StandsLeft levels (suc t) h) line) held
    high : All (λ h. (h < length levels) × (t < get_or levels h 0)) held
    below : All (λ x. x < length levels) line
    low : (z : ℕ) → z < length levels → get_or levels z 0 ≤ t → (All (λ x. z ≤ x) held × All (λ x. z ≤ x) line) ⊎ Contains line z

  -- what is between two items of the stretch, and before both or after both, is one of them
  none_between : (z i k : ℕ) → t < get_or levels i 0 → t < get_or levels k 0 → get_or levels z 0 ≤ t
      → (i ≤ z × z ≤ k) ⊎ (k ≤ z × z ≤ i) → (z ≤ k × z ≤ i) ⊎ (k ≤ z × i ≤ z) → ⊥
  none_between z i k a b low between side = grind arith

  module _ (i : ℕ) (held line : List ℕ) (h : IsUnderWay held (i ∷ line)) where
    inside : i < length levels
    inside = h.below 0 0 (omega arith)

    -- an item above t joins the stretch
    hold : t < get_or levels i 0 → IsUnderWay (i ∷ held) line
    hold above = record {
      held_pairs = AllPairs-cons (StandsLeft levels t) i held (λ k d fits. change i (get_or held k d) inside (h.high k d fits).0 (deep k d fits) (h.across k d fits 0 0 (omega arith))) h.held_pairs;
      line_pairs = AllPairs-tail (StandsLeft levels (suc t)) i line h.line_pairs;
      across = All-cons (λ x. All (StandsLeft levels (suc t) x) line) i held (AllPairs-head (StandsLeft levels (suc t)) i line h.line_pairs) (λ k d fits. All-tail (StandsLeft levels (suc t) (get_or held k d)) i line (h.across k d fits));
      high = All-cons (λ x. (x < length levels) × (t < get_or levels x 0)) i held (inside, above) h.high;
      below = All-tail (λ x. x < length levels) i line h.below;
      low = λ z a b. elim (h.low z a b) [
        | inl s ↦ inl (All-cons (λ x. z ≤ x) i held (s.1 0 0 (omega arith)) s.0, All-tail (λ x. z ≤ x) i line s.1)
        | inr c ↦ elim (to_come i line z c) [ inl e ↦ absurd (omega (arith, ap (λ n. get_or levels n 0) e)) | inr later ↦ inr later ]
      ];
    }
      where
        deep : (k d : ℕ) → k < length held → (z : ℕ) → (i ≤ z × z ≤ get_or held k d) ⊎ (get_or held k d ≤ z × z ≤ i) → t < get_or levels z 0
        deep k d fits z between = elim (cases_lt t (get_or levels z 0)) [
          | inl high ↦ high
          | inr low ↦ absurd (none_between z i (get_or held k d) above (h.high k d fits).1 low between (elim (h.low z short low) [
            | inl s ↦ inl (s.0 k d fits, s.1 0 0 (omega arith))
            | inr c ↦ inr (
              upwards (get_or held k d) z (h.high k d fits).0 short (inr low) (rw c.2 at (h.across k d fits c.0 z c.1)),
              elim (to_come i line z c) [
                | inl e ↦ omega (arith, e)
                | inr l ↦ upwards i z inside short (inr low) (rw l.2 at (AllPairs-head (StandsLeft levels (suc t)) i line h.line_pairs l.0 z l.1))
              ],
            )
          ]))
        ]
          where
            short : z < length levels
            short = elim between [ inl p ↦ omega (arith, p.1, (h.high k d fits).0) | inr p ↦ omega (arith, p.1, inside) ]

    -- and one at t or below ends it
    module _ (at_most : get_or levels i 0 ≤ t) where
      following : All (λ x. i ≤ x) line
      following k d fits = upwards i (get_or line k d) inside (h.below (suc k) d (omega arith)) (inl at_most) (h.line_pairs 0 (suc k) d (omega arith) (omega arith))

      begin : IsUnderWay [] line
      begin =
          let low : (z : ℕ) → z < length levels → get_or levels z 0 ≤ t → (All (λ x. z ≤ x) [] × All (λ x. z ≤ x) line) ⊎ Contains line z = λ z a b. elim (h.low z a b) [
            | inl s ↦ inl (All-nil (λ x. z ≤ x), All-tail (λ x. z ≤ x) i line s.1)
            | inr c ↦ elim (to_come i line z c) [ inl e ↦ inl (All-nil (λ x. z ≤ x), simp (← e) following) | inr later ↦ inr later ]
          ] in
          grind (arith, low, AllPairs-tail (StandsLeft levels (suc t)) i line h.line_pairs, All-tail (λ x. x < length levels) i line h.below)

      finish : (rest : List ℕ) → IsPermutation line rest → AllPairs (StandsLeft levels t) rest → AllPairs (StandsLeft levels t) (held ++ (i ∷ rest))
      finish rest perm pairs =
          let first : (k d : ℕ) → k < length held → get_or held k d ≤ i = λ k d fits. upwards (get_or held k d) i (h.high k d fits).0 inside (inr at_most) (h.across k d fits 0 0 (omega arith)) in
          let passed = λ (x : ℕ) (a : x < length levels) (b : x ≤ i). All-permutation (StandsLeft levels t x) line rest perm (λ k d fits. stay x i (get_or line k d) (h.below (suc k) d (omega arith)) b (following k d fits) at_most) in
          AllPairs-append (StandsLeft levels t) held (i ∷ rest) h.held_pairs
          (AllPairs-cons (StandsLeft levels t) i rest (passed i inside (le_refl i)) pairs)
          (λ k d fits. All-cons (StandsLeft levels t (get_or held k d)) i rest (stay (get_or held k d) i i inside (first k d fits) (le_refl i) at_most) (passed (get_or held k d) (h.high k d fits).0 (first k d fits)))

  turned : (held line : List ℕ) → IsUnderWay held line → AllPairs (StandsLeft levels t) (reversed_after levels (suc t) held line)
  turned held [] h = h.held_pairs
  turned held (i ∷ line) h = elim (cases_Bool (nat_lt (get_or levels i 0) (suc t))) [
    | inl below ↦ simp below (finish i held line h (grind arith) _ (pass-permutation levels (suc t) line []) (turned [] line (begin i held line h (grind arith))))
    | inr above ↦ simp above (turned (i ∷ held) line (hold i held line h (grind arith)))
  ]

  pass : (line : List ℕ) → IsPermutation (indexes levels) line → AllPairs (StandsLeft levels (suc t)) line → AllPairs (StandsLeft levels t) (reversed_after levels (suc t) [] line)
  pass line perm pairs =
      let low : (z : ℕ) → z < length levels → get_or levels z 0 ≤ t → (All (λ x. z ≤ x) [] × All (λ x. z ≤ x) line) ⊎ Contains line z =
      λ z a b. inr (Contains-permutation (indexes levels) line z perm (contains_index (length levels) z a)) in
      turned [] line (grind (arith, low, pairs, All-permutation (λ x. x < length levels) (indexes levels) line perm (all_below levels)))

-- ---- all passes

passes : (levels : List ℕ) (l count : ℕ) (line : List ℕ) → IsPermutation (indexes levels) line
    → AllPairs (StandsLeft levels (l + count)) line → AllPairs (StandsLeft levels l) (reversals levels (suc l) count line)
passes levels l zero line perm pairs = rw add-zero at pairs
passes levels l (suc count) line perm pairs =
    rw (suc-add l count) (passes levels l count _ (IsPermutation-trans _ _ _ perm (pass-permutation levels (suc (l + count)) line [])) (pass levels (l + count) line perm (rw (add-suc l count) at pairs)))

le_max : (a : ℕ) (xs : List ℕ) → (a ≤ fold max a xs) × All (λ x. x ≤ fold max a xs) xs
le_max a [] = grind arith
le_max a (x ∷ xs) = grind (arith, le_max (max a x) xs)

-- before the first pass
start : (levels : List ℕ) → AllPairs (StandsLeft levels (highest levels)) (indexes levels)
start levels p q d before fits = grind (arith, length-range_with_len, get_or-range_with_len, least_between-at, le_max)

-- `low` is the lowest odd number of a list, or `top` where none is below that
record IsLowestOdd (top : ℕ) (xs : List ℕ) (low : ℕ) : Type 0 where
  at_most : low ≤ top
  parity : low < top → IsOdd low
  lowest : (k : ℕ) → k < length xs → IsOdd (get_or xs k 0) → low ≤ get_or xs k 0

lowest_is : (top : ℕ) (xs : List ℕ) → IsLowestOdd top xs (least top (filter is_odd xs))
lowest_is top xs = record {
  at_most = (le-least _ top (filter is_odd xs) (le_refl _)).0;
  parity = least-has (λ n. n < top → IsOdd n) top (filter is_odd xs) (λ h. absurd (omega arith)) (λ k fits _. eqb-true _ _ (filter_passes is_odd xs k 0 fits));
  lowest = found top xs;
}
  where
    found : (top : ℕ) (xs : List ℕ) (k : ℕ) → k < length xs → IsOdd (get_or xs k 0) → least top (filter is_odd xs) ≤ get_or xs k 0
    found top [] k fits odd = absurd (omega arith)
    found top (x ∷ xs) k fits odd = grind (arith, found (min top x) xs (k - 1), found top xs (k - 1), le-least (least (min top x) (filter is_odd xs)) (min top x) (filter is_odd xs))

-- after the pass of the lowest odd number l + 1, or before the first pass where none is odd
ends : (levels : List ℕ) (l : ℕ) (line : List ℕ) → (l < highest levels → IsEven l)
    → ((p : ℕ) → p < length levels → IsOdd (get_or levels p 0) → l < get_or levels p 0) → All (λ x. x < length levels) line
    → AllPairs (StandsLeft levels l) line → AllPairs (StandsLeft levels 0) line
ends levels l line even lowest within pairs p q d before fits =
    grind (arith, pairs p q d before fits, within p d, within q d, even, least_between-has (λ n. n ≤ l → IsEven n) levels, least_between-at, le_max)

pub order_by_reversals-pairs : (levels : List ℕ) → AllPairs (StandsLeft levels 0) (order_by_reversals levels)
unfolding order_by_reversals
order_by_reversals-pairs levels = from_low (lowest_odd levels) (lowest_is (highest levels + 1) levels)
  where
    from_low : (low : ℕ) → IsLowestOdd (highest levels + 1) levels low → AllPairs (StandsLeft levels 0) (reversals levels low (highest levels + 1 - low) (indexes levels))
    from_low zero h = absurd (omega (arith, h.parity (omega arith)))
    from_low (suc l) h =
        ends levels l _ (λ a. omega (arith, h.parity (omega arith))) (λ p a b. omega (arith, h.lowest p a b))
        (All-permutation (λ x. x < length levels) (indexes levels) _ (passes-permutation levels (suc l) (highest levels + 1 - suc l) (indexes levels)) (all_below levels))
        (passes levels l (highest levels + 1 - suc l) (indexes levels) (IsPermutation-refl (indexes levels)) (let e : l + (highest levels + 1 - suc l) ≡ highest levels = omega (arith, h.at_most) in rw e (start levels)))
