-- Lines of given width: how many characters fit, and the lines of a paragraph as ranges of units.
use Rattle.bidi_base.proofs.Common.{◌≡◌, ◌≢◌, ℕ, zero, suc, ◌+◌, ◌-◌, ◌<◌, ◌≤◌, Bool, leb, List, [], ◌∷◌, length, get_or, map, take, drop, Some, slice_get, refl, sym, ap, ◌∙◌, arith, inl, inr}
use Rattle.bidi_base.proofs.Common.{length-drop, common_steps, slice_range, range_with_len, IsPermutation, le-leb, take-append-drop, drop-drop, drop-take, get_or-map, get_or_default, length-map}
use Rattle.bidi_base.proofs.Common.{same_lists, length-range_with_len, get_or-range_with_len, All-permutation, Contains-permutation, length_permutation, slice_get-get_or, All-nil, All-cons}
use Rattle.bidi_base.proofs.Common.{lines_of, line_ranges, visual_indexes, visual_index, IsVisualOrder, ranges_from, IsPartition, indexes, find_last, unit_index, text_len, char_index, subrange, IsLine}
use Rattle.bidi_base.proofs.Common.{All, length-take-le, slice_get_within, get_or_from_slice_get, AreInverse}
use Rattle.bidi_base.specs.Layout.{fitting, line_length, lines_up_to}
use Rattle.bidi_base.proofs.Lists.{cases_Option}
use Rattle.bidi_laws.proofs.ParagraphsLemmas.{joined, ranges_from-IsPartition}
use Rattle.bidi_base.proofs.UnitIndexLemmas.{CharTurn, unit_index-more, unit_index-end, unit_index-mono, unit_index-lt, unit_index-slice_range, char_index-unit_index, IsLine-unit_indexes, line_unit_indexes, text_len-subrange}
use Rattle.bidi_base.proofs.PlacesLemmas.{find_last-range_with_len, find_last-range_with_len-None}
use Rattle.bidi_base.proofs.TextLemmas.{HasUnits}
use Rattle.bidi_laws.proofs.VisualOrderLemmas.{visual_index-order, contains_index, all_below}

-- the widths of one character more
pub unit_index-turn : (width_of len_of : ℕ → ℕ) (chars : List ℕ) (n at c : ℕ) → CharTurn len_of chars n at c → unit_index width_of chars (n + 1) ≡ unit_index width_of chars n + width_of c
unit_index-turn width_of len_of chars n at c turn = grind (arith, unit_index-more)

module _ (width_of : ℕ → ℕ) (limit : ℕ) where
  -- ---- how many characters fit

  -- the characters up to n fit
  fits : List ℕ → ℕ → Bool
  fits chars n = leb (unit_index width_of chars n) limit

  pub fitting-is : (chars : List ℕ) (n : ℕ) → n ≤ length chars → unit_index width_of chars n ≤ limit → (n < length chars → limit < unit_index width_of chars (n + 1)) → fitting width_of limit chars ≡ n
  unfolding fitting fits
  fitting-is chars n short fit full = elim (cases_Option (find_last (fits chars) (range_with_len 0 (length chars + 1)))) [
    | inl e ↦ grind (arith, find_last-range_with_len-None (fits chars) 0 (length chars + 1) e n, le-leb)
    | inr (p, e) ↦ let same : p ≡ n = grind (
      arith,
      find_last-range_with_len (fits chars) 0 (length chars + 1) p e,
      unit_index-mono,
    ) in simp (e, same)
  ]

  pub fitting-within : (chars : List ℕ) → fitting width_of limit chars ≤ length chars
  unfolding fitting fits
  fitting-within chars = grind (arith, find_last-range_with_len)

  pub line_length-within : (chars : List ℕ) → 0 < length chars → line_length width_of limit chars ≤ length chars
  line_length-within chars some = omega (arith, fitting-within chars)

  -- ---- the lines of a paragraph

  -- more than enough lines are enough
  lines_up_to-enough : (n m : ℕ) (chars : List ℕ) → length chars ≤ n → length chars ≤ m → lines_up_to width_of limit n chars ≡ lines_up_to width_of limit m chars
  lines_up_to-enough zero zero chars few many = refl
  lines_up_to-enough zero (suc m) [] few many = refl
  lines_up_to-enough (suc n) zero [] few many = refl
  lines_up_to-enough (suc n) (suc m) [] few many = refl
  lines_up_to-enough (suc n) (suc m) (c ∷ chars) few many =
      grind (arith, lines_up_to-enough n m (drop (line_length width_of limit (c ∷ chars)) (c ∷ chars)), length-drop)
  lines_up_to-enough _ _ (c ∷ chars) few many = absurd (omega arith)

  pub lines_of-none : lines_of width_of limit [] ≡ []
  unfolding lines_of
  lines_of-none = refl

  -- the first line, and those of the rest
  pub lines_of-more : (chars : List ℕ) → 0 < length chars
      → lines_of width_of limit chars ≡ take (line_length width_of limit chars) chars ∷ lines_of width_of limit (drop (line_length width_of limit chars) chars)
  unfolding lines_of
  lines_of-more chars some = grind (arith, length-drop, lines_up_to-enough)

  up_to-joined : (n : ℕ) (chars : List ℕ) → length chars ≤ n → joined (lines_up_to width_of limit n chars) ≡ chars
  up_to-joined zero [] few = refl
  up_to-joined zero (c ∷ chars) few = absurd (omega arith)
  up_to-joined (suc n) [] few = refl
  up_to-joined (suc n) (c ∷ chars) few =
      grind (arith, up_to-joined n (drop (line_length width_of limit (c ∷ chars)) (c ∷ chars)), length-drop, take-append-drop)

  -- the lines are the paragraph
  pub lines_of-joined : (chars : List ℕ) → joined (lines_of width_of limit chars) ≡ chars
  unfolding lines_of
  lines_of-joined chars = up_to-joined (length chars) chars (omega arith)

  up_to-some : (n : ℕ) (chars : List ℕ) → All (λ (l : List ℕ). 0 < length l) (lines_up_to width_of limit n chars)
  up_to-some zero chars = All-nil (λ (l : List ℕ). 0 < length l)
  up_to-some (suc n) chars = grind (
    arith,
    up_to-some n (drop (line_length width_of limit chars) chars),
    line_length-within,
    All-nil,
    All-cons,
    length-take-le,
  )

  -- no line is empty
  pub lines_of-some : (chars : List ℕ) → All (λ (l : List ℕ). 0 < length l) (lines_of width_of limit chars)
  unfolding lines_of
  lines_of-some chars = up_to-some (length chars) chars

  -- ---- the lines as ranges of units

  module _ (len_of : ℕ → ℕ) (units : HasUnits len_of) (chars : List ℕ) where
    -- the character after the first n is too wide for what those leave of the limit
    module _ (n at c left : ℕ) (turn : CharTurn len_of chars n at c) (rest : left + unit_index width_of chars n ≡ limit) (wide : left < width_of c) where
      stops : fitting width_of limit chars ≡ n
      stops = grind (arith, common_steps, fitting-is)

      pub first_line-one : at ≡ 0 → len_of c ≡ unit_index len_of chars (line_length width_of limit chars)
      first_line-one none = grind (arith, common_steps, stops)

      pub first_line-stops : at ≢ 0 → at ≡ unit_index len_of chars (line_length width_of limit chars)
      first_line-stops some = grind (arith, stops)

    -- all characters fit
    pub first_line-all : (n left : ℕ) → n ≡ length chars → left + unit_index width_of chars n ≡ limit → text_len len_of chars ≡ unit_index len_of chars (line_length width_of limit chars)
    first_line-all n left all rest = grind (arith, fitting-is, unit_index-end)

    -- an empty range has no lines
    pub line_ranges-none : (start end : ℕ) → start ≡ end → line_ranges len_of chars width_of limit start end ≡ []
    line_ranges-none start end same = grind (arith, lines_of-none)

    pub line_ranges-IsPartition : (start end : ℕ) → IsLine len_of chars start end → IsPartition start end (line_ranges len_of chars width_of limit start end)
    line_ranges-IsPartition start end line =
        grind (
          arith,
          lines_of-joined,
          text_len-subrange len_of units chars start end line,
          line.ordered,
          ranges_from-IsPartition len_of units start,
          lines_of-some,
        )

    -- the first line of a range ends at `next`, and the others are those of what follows
    pub record FirstLine (start end next : ℕ) : Type 0 where
      pub line : IsLine len_of chars start next
      pub rest : IsLine len_of chars next end
      pub some : start < next
      pub ranges : line_ranges len_of chars width_of limit start end ≡ (start, next) ∷ line_ranges len_of chars width_of limit next end

    pub first_line : (start end next : ℕ) → IsLine len_of chars start end → start < end
        → next ≡ start + unit_index len_of (subrange len_of chars start end) (line_length width_of limit (subrange len_of chars start end)) → FirstLine start end next
    first_line start end next line some e =
        let w = line_unit_indexes len_of units chars start end line in
        let i : ℕ = char_index len_of chars start in
        let j : ℕ = char_index len_of chars end in
        let cs : List ℕ = slice_range chars i j in
        let n : ℕ = line_length width_of limit cs in
        let before : i < j = grind (arith, w.ordered, w.begins, w.ends) in
        let long : length cs ≡ j - i = length-take-le (j - i) (drop i chars) (omega (arith, length-drop i chars, w.within)) in
        let inside : i + n ≤ j = omega (arith, line_length-within cs (omega arith)) in
        let stop : next ≡ unit_index len_of chars (i + n) = omega (arith, e, w.begins, unit_index-slice_range len_of chars i j n inside w.within) in
        let last : char_index len_of chars next ≡ i + n = ap (char_index len_of chars) stop ∙ char_index-unit_index len_of chars units (i + n) (omega (arith, w.within)) in
        let left : subrange len_of chars next end ≡ drop n cs = grind (
          arith,
          last,
          drop-drop n i chars,
          drop-take n (j - (i + n)) (drop i chars),
        ) in
        grind (
          arith,
          stop,
          w.begins,
          w.ends,
          left,
          ap (ranges_from len_of start) (lines_of-more cs (omega arith)),
          IsLine-unit_indexes len_of chars i (i + n),
          IsLine-unit_indexes len_of chars (i + n) j,
          unit_index-lt len_of chars units i (i + n),
        )

-- ---- the maps between places in a line and on the screen

module _ (levels order : List ℕ) (visual : IsVisualOrder levels order) where
  order-long : length order ≡ length levels
  order-long = grind (arith, length_permutation, length-range_with_len)

  -- its own indexes stand in it, each once
  pub own_indexes : IsPermutation (indexes order) order
  own_indexes = grind (arith, order-long)

  -- the inverse of a visual order has the visual index of each index
  pub visual_indexes-inverse : (places : List ℕ) → AreInverse order places → places ≡ visual_indexes levels
  unfolding visual_indexes
  visual_indexes-inverse places inverse = same_lists places (map (visual_index levels) (indexes levels))
      (grind (arith, order-long, length-map, length-range_with_len)) at_each
    where
      at_place : (v k : ℕ) → slice_get order v ≡ Some k → v ≡ visual_index levels k
      at_place v k e = grind (arith, visual_index-order, slice_get_within, get_or_from_slice_get)

      at_each : (k d : ℕ) → k < length places → get_or places k d ≡ get_or (map (visual_index levels) (indexes levels)) k d
      at_each k d within =
          let fits : k < length (indexes levels) = omega (arith, order-long, inverse.same_len, length-range_with_len 0 (length levels)) in
          let here : get_or (indexes levels) k 0 ≡ k = grind (arith, get_or-range_with_len, order-long) in
          get_or_default places k d 0 within ∙ at_place (get_or places k 0) k (inverse.forth k within)
          ∙ sym (simp here at (get_or-map (visual_index levels) (indexes levels) k 0 d fits))

-- a list that has at each number of a permutation the place where it stands there is its inverse
pub AreInverse-from_back : (order places : List ℕ) → IsPermutation (indexes order) order → length order ≡ length places
    → ((k : ℕ) → k < length order → get_or places (get_or order k 0) 0 ≡ k) → AreInverse order places
AreInverse-from_back order places perm same at = record {
  same_len = same;
  back = λ k within. grind (
    arith,
    All-permutation (λ (i : ℕ). i < length order)
        (indexes order) order perm (all_below order) k 0 within,
    slice_get-get_or places (get_or order k 0) 0,
    at k,
  );
  forth = λ k within.
      let c = Contains-permutation (indexes order) order k perm (contains_index (length order) k (omega arith)) in
      grind (arith, get_or_default order c.0 0 k c.1, c.2, at c.0 c.1, slice_get-get_or order c.0 0 c.1);
}
