-- There is one visual order: a list that is one is the one that `visual_order` computes.
use Rattle.bidi_base.proofs.Common.{◌≡◌, ℕ, zero, suc, ◌+◌, ◌<◌, Bool, true, false, cond, eqb, List, [], ◌∷◌, map, length, get_or, take, drop, find, count_by, fold, AllPairs, Contains, Option}
use Rattle.bidi_base.proofs.Common.{Some, None, unwrap_or, refl, ◌∙◌, arith, eqb-true, length-drop, get_or-take, get_or-drop, range_with_len, get_or-map, same_lists, length-map, get_or_default}
use Rattle.bidi_base.proofs.Common.{length-range_with_len, get_or-range_with_len, sum_by-append, sum_by-IsPermutation, Contains-permutation, length_permutation, All-permutation, indexes}
use Rattle.bidi_base.proofs.Common.{stands_left, visual_index, index_at_visual, visual_order, IsVisualOrder, All, length-take-le, take-append-drop}
use Rattle.bidi_base.proofs.PlacesLemmas.{IsLeast, find-range_with_len, find-range_with_len-None}
use Rattle.bidi_laws.proofs.OrderLemmas.{stands_left-other}

pub stands_left-same : (levels : List ℕ) (i : ℕ) → stands_left levels i i ≡ false
unfolding stands_left
stands_left-same levels i = grind arith

counts_all : (test : ℕ → Bool) (xs : List ℕ) (a : ℕ) → ((k : ℕ) → k < length xs → test (get_or xs k 0) ≡ true) → fold (λ b x. b + cond (test x) 1 0) a xs ≡ a + length xs
counts_all test [] a h = omega arith
counts_all test (x ∷ xs) a h = grind (arith, h 0, counts_all test xs (a + cond (test x) 1 0) (λ k below. h (suc k) (omega arith)))

counts_none : (test : ℕ → Bool) (xs : List ℕ) (a : ℕ) → ((k : ℕ) → k < length xs → test (get_or xs k 0) ≡ false) → fold (λ b x. b + cond (test x) 1 0) a xs ≡ a
counts_none test [] a h = refl
counts_none test (x ∷ xs) a h = grind (arith, h 0, counts_none test xs (a + cond (test x) 1 0) (λ k below. h (suc k) (omega arith)))

-- as many stand left of the element at v as stand before it
count-left : (levels order : List ℕ) (v : ℕ) → AllPairs (λ i j. stands_left levels i j ≡ true) order → v < length order
    → count_by (λ j. stands_left levels j (get_or order v 0)) order ≡ v
count-left levels order v ordered within =
    let test : ℕ → Bool = λ j. stands_left levels j (get_or order v 0) in
    let parts = sum_by-append (λ x. cond (test x) 1 0) (take v order) (drop v order) in
    grind (arith, take-append-drop v order, parts, counts_all test (take v order) 0 before, counts_none test (drop v order) 0 after, length-take-le v order)
  where
    before : (k : ℕ) → k < length (take v order) → stands_left levels (get_or (take v order) k 0) (get_or order v 0) ≡ true
    before k below = grind (arith, length-take-le, get_or-take)

    after : (k : ℕ) → k < length (drop v order) → stands_left levels (get_or (drop v order) k 0) (get_or order v 0) ≡ false
    after zero below = grind (arith, get_or-drop, stands_left-same)
    after (suc k) below = grind (arith, length-drop, get_or-drop, stands_left-other, stands_left-same levels (get_or order v 0), ordered)

pub visual_index-order : (levels order : List ℕ) (v : ℕ) → IsVisualOrder levels order → v < length order → visual_index levels (get_or order v 0) ≡ v
unfolding visual_index
visual_index-order levels order v h within = grind (arith, sum_by-IsPermutation, count-left levels order v h.in_order within)

pub contains_index : (n i : ℕ) → i < n → Contains (range_with_len 0 n) i
contains_index n i below = (i, omega (arith, length-range_with_len 0 n), get_or-range_with_len 0 n i i below ∙ (let same : 0 + i ≡ i = omega arith in same))

pub all_below : (levels : List ℕ) → All (λ i. i < length levels) (indexes levels)
all_below levels k d below = grind (arith, length-range_with_len, get_or-range_with_len)

-- at each place of a visual order stands the index that `visual_order` has there
index_at-order : (levels order : List ℕ) (v : ℕ) → IsVisualOrder levels order → v < length order → index_at_visual levels v ≡ get_or order v 0
unfolding index_at_visual
index_at-order levels order v h within = found (find test (indexes levels)) refl
  where
    test : ℕ → Bool
    test = λ i. eqb (visual_index levels i) v

    long : length order ≡ length levels
    long = grind (arith, length_permutation, length-range_with_len)

    is_index : get_or order v 0 < length levels
    is_index = All-permutation (λ i. i < length levels) (indexes levels) order h.all_indexes (all_below levels) v 0 within

    same_place : (i : ℕ) → Contains order i → visual_index levels i ≡ v → i ≡ get_or order v 0
    same_place i c e = grind (arith, get_or_default, visual_index-order)

    found : (o : Option ℕ) → find test (indexes levels) ≡ o → unwrap_or o 0 ≡ get_or order v 0
    found None e = grind (arith, find-range_with_len-None test 0 (length levels) e (get_or order v 0), is_index, visual_index-order)
    found (Some i) e =
        let least : IsLeast test 0 (0 + length levels) i = find-range_with_len test 0 (length levels) i e in
        same_place i (Contains-permutation (indexes levels) order i h.all_indexes (contains_index (length levels) i (omega (arith, least.below)))) (eqb-true (visual_index levels i) v least.passes)

pub visual_order-unique : (levels order : List ℕ) → IsVisualOrder levels order → order ≡ visual_order levels
unfolding visual_order
visual_order-unique levels order h = same_lists order _ (grind (arith, short, length-map, length-range_with_len)) at_each
  where
    short : length order ≡ length levels
    short = grind (arith, length_permutation, length-range_with_len)

    at_each : (k d : ℕ) → k < length order → get_or order k d ≡ get_or (map (index_at_visual levels) (indexes levels)) k d
    at_each k d within =
        grind (arith, get_or_default order k d 0, get_or-map (index_at_visual levels) (indexes levels) k 0 d, get_or-range_with_len, short, length-range_with_len, index_at-order levels order k h within)
