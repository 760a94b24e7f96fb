-- A list of the indexes in which the pairs stand as the levels ask is the visual order.
use Rattle.bidi_base.proofs.Common.{◌≡◌, ℕ, ◌+◌, ◌<◌, false, true, List, length, get_or, AllPairs, sym, subst, ◌∙◌, arith, inl, inr, eq-eqb, rules, IsPermutation, cases_order, get_or_default}
use Rattle.bidi_base.proofs.Common.{length-range_with_len, get_or-range_with_len, IsPermutation-refl, length_permutation, list_any_at}
use Rattle.bidi_base.proofs.Common.{has_rtl, indexes, stands_left, visual_order, IsVisualOrder, order_by_reversals}
use Rattle.bidi_laws.proofs.OrderLemmas.{stands_left-before, stands_left-after}
use Rattle.bidi_laws.proofs.VisualOrderLemmas.{visual_order-unique}
use Rattle.bidi_lines.specs.ArrangedItems.{IsEven, StandsLeft, IsArranged, NoneIsOdd}
use Rattle.bidi_lines.proofs.Distinct.{distinct}
use Rattle.bidi_lines.proofs.Least.{least_between-has}
use Rattle.bidi_lines.proofs.Reversed.{order_by_reversals-pairs, order_by_reversals-permutation}

visual-from_pairs : (levels order : List ℕ) → IsPermutation (indexes levels) order → AllPairs (StandsLeft levels 0) order → IsVisualOrder levels order
visual-from_pairs levels order perm pairs = record { all_indexes = perm; in_order = in_order }
  where
    in_order : AllPairs (λ i j. stands_left levels i j ≡ true) order
    in_order p q d before fits =
        let s = pairs p q d before fits in
        elim (cases_order (get_or order p d) (get_or order q d)) [
          | inl same ↦ absurd (distinct (length levels) order perm p q d before fits same)
          | inr apart ↦ elim apart [
            | inl up ↦ simp (stands_left-before levels _ _ up) (eq-eqb _ 0 (omega (arith, s.up up)))
            | inr down ↦ simp (stands_left-after levels _ _ down) (eq-eqb _ 1 (omega (arith, s.down down)))
          ]
        ]

-- a whole line, arranged from the level 0 on
pub visual-from_arranged : (levels order : List ℕ) → IsPermutation (indexes levels) order → IsArranged levels 0 0 (length levels) order → IsVisualOrder levels order
visual-from_arranged levels order perm made = visual-from_pairs levels order perm (λ p q d before fits.
    rw (get_or_default order p d 0 (omega arith), get_or_default order q d 0 fits)
    (made.pairs p q (omega arith) before (omega (arith, fits, length_permutation (indexes levels) order perm, length-range_with_len 0 (length levels)))))

-- what is computed is a visual order, and the annex's reversals give it
reversals-visual : (levels : List ℕ) → IsVisualOrder levels (order_by_reversals levels)
reversals-visual levels = search (rules, visual-from_pairs, order_by_reversals-permutation, order_by_reversals-pairs)

pub visual_order-is : (levels : List ℕ) → IsVisualOrder levels (visual_order levels)
visual_order-is levels = subst (IsVisualOrder levels) (visual_order-unique levels _ (reversals-visual levels)) (reversals-visual levels)

-- what a list in the visual order is
pub visual_law : {levels order : List ℕ} → IsVisualOrder levels order → (order ≡ visual_order levels) × (order ≡ order_by_reversals levels)
visual_law {levels} {order} h =
    let e : order ≡ visual_order levels = visual_order-unique levels order h in
    (e, e ∙ sym (visual_order-unique levels _ (reversals-visual levels)))

-- what the test for odd levels says where it fails
pub none_odd : (levels : List ℕ) → has_rtl levels ≡ false → NoneIsOdd levels
none_odd levels e k h = grind (arith, list_any_at)

-- where no level is odd, the indexes stand as they are
pub visual-still : (levels : List ℕ) → NoneIsOdd levels → IsVisualOrder levels (indexes levels)
visual-still levels even = visual-from_pairs levels (indexes levels) (IsPermutation-refl (indexes levels)) (λ p q d before fits.
    let n : q < length levels = omega (arith, fits, length-range_with_len 0 (length levels)) in
    simp (get_or-range_with_len 0 (length levels) p d (omega arith), get_or-range_with_len 0 (length levels) q d n) (record {
      up = λ _. omega (arith, least_between-has IsEven levels (0 + p) (0 + q) (omega arith) (omega arith) (λ k a b. even k (omega arith)));
      down = λ a. absurd (omega arith);
    }))

pub visual_order-still : (levels : List ℕ) → NoneIsOdd levels → visual_order levels ≡ indexes levels
visual_order-still levels even = sym (visual_order-unique levels (indexes levels) (visual-still levels even))
