-- What a search reports that stops where a text decides its base direction.
use Rattle.bidi_base.proofs.Common.{◌≡◌, ◌⊎◌, ◌∙◌, ℕ, zero, suc, ◌+◌, ◌<◌, ◌≤◌, Bool, true, false, ◌||◌, ◌==◌, if◌then◌else◌, List, [], ◌∷◌, ◌++◌, length, take, drop, map, map-append, list_all}
use Rattle.bidi_base.proofs.Common.{prefix_len, Result, Ok, Err, refl, sym, ap, arith, IsUtf8, chars, chars-nil, and_parts, nil_from_length, length-take, drop_all, drop-cons, get_or, Source}
use Rattle.bidi_base.proofs.Common.{is_utf8, utf8_valid_len, IsUtf8-nil, is_utf8-from_IsUtf8, utf8_valid_len_le}
use Rattle.std.specs.Prelude.{take_while}
use Rattle.bidi_base.specs.declared.char_data.Direction.{Direction}
use Rattle.bidi_base.specs.declared.char_data.Direction.TheVariants.{Ltr, Rtl, Mixed}
use Rattle.unicode_bidi.specs.declared.direction_search.DirectionSearch.{DirectionSearch}
use Rattle.unicode_bidi.specs.declared.direction_search.DirectionSearch.TheVariants.{Found, Open}
use Rattle.unicode_bidi.specs.DirectionSearch.{direction_found}
use Rattle.unicode_bidi.proofs.SearchLemmas.{search_in, search_on, search_step, is_over, is_mixed, direction_of, search_in-is, is_over-is, search_in-append}
use Rattle.bidi_numbers.specs.declared.fault.Fault.{Fault}
use Rattle.bidi_numbers.specs.declared.fault.Fault.TheVariants.{NotUtf8, NotScalar}
use Rattle.bidi_numbers.specs.Numbers.{direction_number, direction_in}
use Rattle.bidi_numbers.specs.Texts.{is_scalar}
use Rattle.bidi_calls.specs.FirstDirection.{is_decided, direction_or, utf8_front, first_direction_utf8, first_direction_utf32}
use Rattle.bidi_calls.proofs.Utf8Fronts.{is_utf8-drop, utf8_front-more, piece-front, no_front, no_front-is_utf8, utf8_front-none, utf8_front-valid}

-- what is reported of a text by the search in the characters before its first fault
abbrev pub reported : DirectionSearch → Bool → Fault → Result ℕ Fault
reported (Found direction) whole fault = Ok (direction_number direction)
reported (Open depth) whole fault = if whole then Ok (direction_number Mixed) else Err fault

mixed_number : (d : Direction) → (direction_number d == direction_number Mixed) ≡ is_mixed d
mixed_number Ltr = refl
mixed_number Rtl = refl
mixed_number Mixed = refl

picked : (found : DirectionSearch) (whole : Bool) (fault : Fault) → (if whole || is_over found then Ok (direction_number (direction_found found)) else Err fault) ≡ reported found whole fault
picked (Found direction) true fault = refl
picked (Found direction) false fault = refl
picked (Open depth) true fault = refl
picked (Open depth) false fault = refl

take_while-more : (n : ℕ) (ns : List ℕ) → is_scalar n ≡ true → take_while is_scalar (n ∷ ns) ≡ n ∷ take_while is_scalar ns
take_while-more n ns good =
    let size = prefix_len is_scalar ns in
    let one : 1 + size ≡ suc size = omega arith in
    rw good (ap (λ k. take k (n ∷ ns)) one)

take_while-valid : (ns : List ℕ) → list_all is_scalar ns ≡ true → take_while is_scalar ns ≡ ns
take_while-valid [] all = refl
take_while-valid (n ∷ ns) all = let both = and_parts _ _ all in take_while-more n ns both.0 ∙ ap (λ t. n ∷ t) (take_while-valid ns both.1)

module _ (source : Source) (full : Bool) where
  direction_or-reported : (cs : List ℕ) (whole : Bool) (fault : Fault) → direction_or source full cs whole fault ≡ reported (search_in full 0 (map source.class_of cs)) whole fault
  unfolding direction_in
  direction_or-reported cs whole fault =
      let found = search_in full 0 (map source.class_of cs) in
      rw (mixed_number (direction_of source full cs), ← is_over-is source full cs, ← search_in-is source full cs) (picked found whole fault)

  -- ---- UTF-8

  -- what is reported of the rest of a text, before which so many isolates are open
  abbrev pub utf8_from : ℕ → List ℕ → Result ℕ Fault
  utf8_from depth bs = reported (search_in full depth (map source.class_of (utf8_front bs))) (is_utf8 bs) NotUtf8

  pub utf8_from-start : (bs : List ℕ) → first_direction_utf8 source full bs ≡ utf8_from 0 bs
  utf8_from-start bs = direction_or-reported (utf8_front bs) (is_utf8 bs) NotUtf8

  later : (n depth : ℕ) (bs : List ℕ) → n ≤ length bs → IsUtf8 (take n bs) → (found : DirectionSearch) → found ≡ search_in full depth (map source.class_of (chars (take n bs)))
      → utf8_from depth bs ≡ reported (search_on (λ now. search_in full now (map source.class_of (utf8_front (drop n bs)))) found) (is_utf8 (drop n bs)) NotUtf8
  later n depth bs within front found is =
      rw (is, utf8_front-more bs n within front, map-append source.class_of (chars (take n bs)) (utf8_front (drop n bs)), search_in-append full depth (map source.class_of (chars (take n bs))) (map source.class_of (utf8_front (drop n bs))), is_utf8-drop bs n within front) refl

  -- the front of a piece of it has been searched
  module _ (depth : ℕ) (bs : List ℕ) (k : ℕ) (front : List ℕ) (is : front ≡ take (utf8_valid_len (take k bs)) (take k bs)) where
    abbrev cut : ℕ
    cut = utf8_valid_len (take k bs)

    pub piece_length : length front ≡ utf8_valid_len (take k bs)
    piece_length = omega (arith, ap length is, length-take cut (take k bs), utf8_valid_len_le (take k bs))

    pub piece_within : length front ≤ length bs
    piece_within = omega (arith, piece_length, (piece-front bs k).0)

    later-front : (found : DirectionSearch) → found ≡ search_in full depth (map source.class_of (chars front))
        → utf8_from depth bs ≡ reported (search_on (λ now. search_in full now (map source.class_of (utf8_front (drop cut bs)))) found) (is_utf8 (drop cut bs)) NotUtf8
    later-front found searched =
        let w = piece-front bs k in
        later cut depth bs w.0 w.3 found (searched ∙ ap (λ b. search_in full depth (map source.class_of (chars b))) (is ∙ w.2))

    pub piece-found : (direction : Direction) → search_in full depth (map source.class_of (chars front)) ≡ Found direction → Ok (direction_number direction) ≡ utf8_from depth bs
    piece-found direction searched = sym (later-front (Found direction) (sym searched))

    pub piece-open : (now : ℕ) → search_in full depth (map source.class_of (chars front)) ≡ Open now → utf8_from depth bs ≡ utf8_from now (drop (length front) bs)
    piece-open now searched = later-front (Open now) (sym searched) ∙ ap (λ i. utf8_from now (drop i bs)) (sym piece_length)

    pub piece-none : 0 < length bs → 4 ≤ k ⊎ length bs ≤ k → length front ≡ 0 → Err NotUtf8 ≡ utf8_from depth bs
    piece-none some long none =
        let nothing : utf8_valid_len bs ≡ 0 = no_front bs k long (sym piece_length ∙ none) in
        rw (utf8_front-none bs nothing, no_front-is_utf8 bs some nothing) refl

  pub utf8_from-end : (depth : ℕ) (bs : List ℕ) → length bs ≡ 0 → Ok (direction_number Mixed) ≡ utf8_from depth bs
  utf8_from-end depth bs none =
      let nothing : bs ≡ [] = nil_from_length bs none in
      let u : IsUtf8 bs = rw nothing IsUtf8-nil in
      rw (utf8_front-valid bs u, is_utf8-from_IsUtf8 bs u, nothing, chars-nil) refl

  -- a text without a fault has its base direction reported
  pub utf8-valid : (bs : List ℕ) → IsUtf8 bs → first_direction_utf8 source full bs ≡ Ok (direction_in source full (chars bs))
  utf8-valid bs u = rw (is_utf8-from_IsUtf8 bs u, utf8_front-valid bs u) refl

  decided_result : (found : DirectionSearch) → is_over found ≡ true → (n : ℕ) → n ≡ direction_number (direction_found found)
      → (more : ℕ → DirectionSearch) (whole : Bool) (fault : Fault) → reported (search_on more found) whole fault ≡ Ok n
  decided_result (Found direction) over n is more whole fault = ap Ok (sym is)
  decided_result (Open depth) over n is more whole fault = absurd (cc over)

  over-decided : (cs : List ℕ) → is_decided source full cs ≡ true → is_over (search_in full 0 (map source.class_of cs)) ≡ true
  unfolding direction_in
  over-decided cs over = is_over-is source full cs ∙ rw (mixed_number (direction_of source full cs)) at over

  direction-found : (cs : List ℕ) → direction_in source full cs ≡ direction_number (direction_found (search_in full 0 (map source.class_of cs)))
  unfolding direction_in
  direction-found cs = ap direction_number (sym (search_in-is source full cs))

  -- what follows a front that decides counts for nothing
  pub utf8-decided : (bs : List ℕ) (n : ℕ) → n ≤ length bs → IsUtf8 (take n bs) → is_decided source full (chars (take n bs)) ≡ true
      → first_direction_utf8 source full bs ≡ Ok (direction_in source full (chars (take n bs)))
  utf8-decided bs n within front over =
      let found = search_in full 0 (map source.class_of (chars (take n bs))) in
      utf8_from-start bs ∙ later n 0 bs within front found refl
      ∙ decided_result found (over-decided (chars (take n bs)) over) (direction_in source full (chars (take n bs))) (direction-found (chars (take n bs))) _ _ _

  -- ---- lists of characters

  abbrev pub utf32_from : ℕ → List ℕ → Result ℕ Fault
  utf32_from depth ns = reported (search_in full depth (map source.class_of (take_while is_scalar ns))) (list_all is_scalar ns) NotScalar

  pub utf32_from-start : (ns : List ℕ) → first_direction_utf32 source full ns ≡ utf32_from 0 ns
  utf32_from-start ns = direction_or-reported (take_while is_scalar ns) (list_all is_scalar ns) NotScalar

  -- the number at an index, before which so many isolates are open
  module _ (depth i : ℕ) (ns : List ℕ) (within : i < length ns) where
    next : drop i ns ≡ get_or ns i 0 ∷ drop (i + 1) ns
    next = let one : i + 1 ≡ suc i = omega arith in rw one (drop-cons ns i 0 within)

    pub utf32-bad : is_scalar (get_or ns i 0) ≡ false → Err NotScalar ≡ utf32_from depth (drop i ns)
    utf32-bad bad = rw (next, bad) refl

    utf32-turn : is_scalar (get_or ns i 0) ≡ true → (found : DirectionSearch) → found ≡ search_step full depth (source.class_of (get_or ns i 0))
        → utf32_from depth (drop i ns) ≡ reported (search_on (λ now. search_in full now (map source.class_of (take_while is_scalar (drop (i + 1) ns)))) found) (list_all is_scalar (drop (i + 1) ns)) NotScalar
    utf32-turn good found is = rw (next, is, take_while-more (get_or ns i 0) (drop (i + 1) ns) good, good) refl

    pub utf32-found : is_scalar (get_or ns i 0) ≡ true → (direction : Direction)
        → search_step full depth (source.class_of (get_or ns i 0)) ≡ Found direction
        → Ok (direction_number direction) ≡ utf32_from depth (drop i ns)
    utf32-found good direction is = sym (utf32-turn good (Found direction) (sym is))

    pub utf32-open : is_scalar (get_or ns i 0) ≡ true → (now : ℕ) → search_step full depth (source.class_of (get_or ns i 0)) ≡ Open now
        → utf32_from depth (drop i ns) ≡ utf32_from now (drop (i + 1) ns)
    utf32-open good now is = utf32-turn good (Open now) (sym is)

  pub utf32_from-end : (depth i : ℕ) (ns : List ℕ) → length ns ≤ i → Ok (direction_number Mixed) ≡ utf32_from depth (drop i ns)
  utf32_from-end depth i ns all = rw (drop_all i ns all) refl

  pub utf32-valid : (ns : List ℕ) → list_all is_scalar ns ≡ true → first_direction_utf32 source full ns ≡ Ok (direction_in source full ns)
  utf32-valid ns all = rw (all, take_while-valid ns all) refl

  take_while-front : (n : ℕ) (ns : List ℕ) → list_all is_scalar (take n ns) ≡ true → take_while is_scalar ns ≡ take n ns ++ take_while is_scalar (drop n ns)
  take_while-front zero ns all = refl
  take_while-front (suc n) [] all = refl
  take_while-front (suc n) (m ∷ ns) all = let both = and_parts _ _ all in take_while-more m ns both.0 ∙ ap (λ t. m ∷ t) (take_while-front n ns both.1)

  -- the same of a list of characters
  pub utf32-decided : (ns : List ℕ) (n : ℕ) → list_all is_scalar (take n ns) ≡ true → is_decided source full (take n ns) ≡ true
      → first_direction_utf32 source full ns ≡ Ok (direction_in source full (take n ns))
  utf32-decided ns n front over =
      let found = search_in full 0 (map source.class_of (take n ns)) in
      let joined : search_in full 0 (map source.class_of (take_while is_scalar ns)) ≡ search_on (λ now. search_in full now (map source.class_of (take_while is_scalar (drop n ns)))) found =
      rw (take_while-front n ns front, map-append source.class_of (take n ns) (take_while is_scalar (drop n ns))) (search_in-append full 0 (map source.class_of (take n ns)) (map source.class_of (take_while is_scalar (drop n ns)))) in
      utf32_from-start ns ∙ ap (λ s. reported s (list_all is_scalar ns) NotScalar) joined
      ∙ decided_result found (over-decided (take n ns) over) (direction_in source full (take n ns)) (direction-found (take n ns)) _ _ _
