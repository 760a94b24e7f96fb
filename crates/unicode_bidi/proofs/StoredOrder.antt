-- Lists of indexes that are kept only if they differ from the indexes in their own order.
use Rattle.bidi_base.proofs.Common.{◌≡◌, ◌≢◌, ℕ, ◌+◌, ◌<◌, List, Option, length, get_or, slice_get, Some, None, refl, sym, ap, ◌∙◌, arith, inl, inr, cases_lt, slice_get-get_or}
use Rattle.bidi_base.proofs.Common.{length_permutation, length-range_with_len, get_or-range_with_len, same_number_lists, indexes, IsVisualOrder, visual_indexes, IfSome, slice_get_within}
use Rattle.bidi_base.proofs.Common.{get_or_from_slice_get, range_with_len, AreInverse}
use Rattle.bidi_laws.proofs.LayoutLemmas.{visual_indexes-inverse}
use Rattle.unicode_bidi.specs.StoredOrder.{entries}

-- the indexes in their own order, looked up
pub range-found : (len k : ℕ) → k < len → slice_get (range_with_len 0 len) k ≡ Some k
range-found len k fits =
    let same : 0 + k ≡ k = omega arith in
    slice_get-get_or (range_with_len 0 len) k 0 (omega (arith, length-range_with_len 0 len)) ∙ ap Some (get_or-range_with_len 0 len k 0 fits ∙ same)

-- they are their own inverse
range-inverse : (len : ℕ) → AreInverse (range_with_len 0 len) (range_with_len 0 len)
range-inverse len = record {
  same_len = refl;
  back = λ k fits.
      let inside : k < len = omega (arith, length-range_with_len 0 len) in
      grind (arith, range-found len k inside, get_or-range_with_len 0 len k 0 inside);
  forth = λ k fits.
      let inside : k < len = omega (arith, length-range_with_len 0 len) in
      grind (arith, range-found len k inside, get_or-range_with_len 0 len k 0 inside);
}

-- what lists stand for
pub entries-none : (list : List ℕ) (len : ℕ) → length list ≡ 0 → entries list len ≡ range_with_len 0 len
entries-none list len e = grind arith

pub entries-stored : (list : List ℕ) (len : ℕ) → 0 < length list → entries list len ≡ list
entries-stored list len some = grind arith

pub length-entries : (list : List ℕ) (len : ℕ) → (0 < length list → length list ≡ len) → length (entries list len) ≡ len
length-entries list len whole = grind (arith, length-range_with_len)

-- they are inverse if those that are kept are
pub entries-inverse : (order places : List ℕ) (len : ℕ) → AreInverse order places → AreInverse (entries order len) (entries places len)
entries-inverse order places len h = elim (cases_lt 0 (length order)) [
  | inl some ↦ rw (entries-stored order len some, entries-stored places len (omega (arith, h.same_len))) h
  | inr none ↦ rw (entries-none order len (omega arith), entries-none places len (omega (arith, h.same_len))) (range-inverse len)
]

-- a place that is found in inverse lists leads back
pub found-back : (xs ys : List ℕ) (o : Option ℕ) (k : ℕ) → AreInverse xs ys → o ≡ slice_get xs k → IfSome o (λ x. slice_get ys x ≡ Some k)
found-back xs ys None k h e = tt
found-back xs ys (Some x) k h e =
    let fits = slice_get_within xs k x (sym e) in
    ap (slice_get ys) (sym (get_or_from_slice_get xs k x 0 (sym e))) ∙ h.back k fits

-- a list of indexes each of which stands at its own place, and one in which one does not
pub in_order : (order : List ℕ) → ((k : ℕ) → k < length order → get_or order k 0 ≡ k) → order ≡ indexes order
in_order order each = same_number_lists order (indexes order) (sym (length-range_with_len 0 (length order)))
    (λ k fits. each k fits ∙ sym (get_or-range_with_len 0 (length order) k 0 fits ∙ (let same : 0 + k ≡ k = omega arith in same)))

pub out_of_order : (order : List ℕ) (k : ℕ) → k < length order → get_or order k 0 ≢ k → order ≢ indexes order
out_of_order order k fits other e =
    other (ap (λ xs. get_or xs k 0) e ∙ get_or-range_with_len 0 (length order) k 0 fits ∙ (let same : 0 + k ≡ k = omega arith in same))

module _ (levels order : List ℕ) (visual : IsVisualOrder levels order) where
  pub order-long : length order ≡ length levels
  order-long = grind (arith, visual.all_indexes, length_permutation (indexes levels) order, length-range_with_len)

  -- a visual order that is that of the indexes
  pub still-indexes : order ≡ indexes order → order ≡ indexes levels
  still-indexes e = e ∙ ap (range_with_len 0) order-long

-- the visual index of each index of a line that stays in order
pub places-in_order : (levels : List ℕ) → IsVisualOrder levels (indexes levels) → indexes levels ≡ visual_indexes levels
places-in_order levels visual = visual_indexes-inverse levels (indexes levels) visual (indexes levels) (range-inverse (length levels))
