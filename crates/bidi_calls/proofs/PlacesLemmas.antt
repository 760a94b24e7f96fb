-- The place of each character in an order.
use Rattle.bidi_base.proofs.Common.{◌≡◌, ◌∙◌, ℕ, ◌+◌, ◌-◌, ◌<◌, ◌≤◌, ◌==◌, List, true, false, length, length-set, get_or, set, drop, drop_more, drop_all, get_or-set_other, get_or-set_same, get_or-map-range_with_len, length-map-range_with_len, ext_get_or, inl, inr, cases_Bool, eqb-true, eqb-false, refl, sub-zero, sym, ap, arith}
use Rattle.bidi_calls.specs.ShownOrder.{nowhere, place_from, places_of}

-- the place of a character by the first entry from the i-th on
place_from-here : (order : List ℕ) (i j : ℕ) → i < length order → get_or order i 0 == j ≡ true → place_from i (drop i order) j ≡ i
place_from-here order i j fits same = rw (drop_more order i 0 fits) (simp same refl)

place_from-later : (order : List ℕ) (i j : ℕ) → i < length order → get_or order i 0 == j ≡ false → place_from i (drop i order) j ≡ place_from (i + 1) (drop (i + 1) order) j
place_from-later order i j fits other = rw (drop_more order i 0 fits) (simp other refl)

-- before any entry was read, each character is nowhere
pub nowhere-first : (order : List ℕ) (j n : ℕ) → length order ≤ n → nowhere ≡ place_from n (drop n order) j
nowhere-first order j n past = ap (λ (ks : List ℕ). place_from n ks j) (sym (drop_all n order past))

-- the places by the entries from the i-th on
abbrev pub HasPlaces : List ℕ → ℕ → List ℕ → ℕ → Type 0
HasPlaces order i places count = (length places ≡ count) × ((j : ℕ) → j < count → get_or places j 0 ≡ place_from i (drop i order) j)

module _ (order places : List ℕ) (count n i : ℕ) (fits : i < length order) (next : n ≡ i + 1) (known : HasPlaces order n places count) where
  before : (j : ℕ) → j < count → get_or places j 0 ≡ place_from (i + 1) (drop (i + 1) order) j
  before j below = known.1 j below ∙ ap (λ (m : ℕ). place_from m (drop m order) j) next

  -- an entry is read, and it is that of a character of the line
  pub places-more : get_or order i 0 < count → HasPlaces order i (set places (get_or order i 0) i) count
  places-more inside = (
    length-set places (get_or order i 0) i ∙ known.0,
    λ j below. elim (cases_Bool (get_or order i 0 == j)) [
      | inl same ↦
          let here : get_or order i 0 ≡ j = eqb-true (get_or order i 0) j same in
          ap (λ (m : ℕ). get_or (set places (get_or order i 0) i) m 0) (sym here)
          ∙ get_or-set_same places (get_or order i 0) i 0 (omega (arith, inside, known.0))
          ∙ sym (place_from-here order i j fits same)
      | inr other ↦
          get_or-set_other places (get_or order i 0) j i 0 (λ e. eqb-false (get_or order i 0) j other (sym e))
          ∙ before j below ∙ sym (place_from-later order i j fits other)
    ],
  )

  -- it is that of none
  pub places-same : count ≤ get_or order i 0 → HasPlaces order i places count
  places-same outside = (
    known.0,
    λ j below. elim (cases_Bool (get_or order i 0 == j)) [
      | inl same ↦ let here : get_or order i 0 ≡ j = eqb-true (get_or order i 0) j same in absurd (omega (arith, here, below, outside))
      | inr other ↦ before j below ∙ sym (place_from-later order i j fits other)
    ],
  )

-- all entries are read
pub places-all : (order places : List ℕ) (count : ℕ) → HasPlaces order 0 places count → places ≡ places_of order count
places-all order places count known =
    let same : count - 0 ≡ count = omega arith in
    ext_get_or 0 places (places_of order count) (known.0 ∙ sym (length-map-range_with_len (place_from 0 order) 0 (count - 0) ∙ same))
    (λ j below.
    let fits : j < count = omega (arith, below, known.0) in
    known.1 j fits ∙ sym (get_or-map-range_with_len (place_from 0 order) 0 (count - 0) j j 0 (omega (arith, fits, same)) (omega arith)))

-- there is one place for each character
pub length-places : (order : List ℕ) (count : ℕ) → length (places_of order count) ≡ count
length-places order count = length-map-range_with_len (place_from 0 order) 0 (count - 0) ∙ sub-zero count
