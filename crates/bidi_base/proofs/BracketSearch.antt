-- The search for bracket pairs over the brackets of a sequence alone: a stack of openings, each with the place of its
-- pair in the list of pairs.
use Rattle.bidi_base.proofs.Common.{◌≡◌, ℕ, zero, suc, ◌+◌, ◌-◌, ◌<◌, ◌≤◌, Bool, true, false, not, cond, eqb, ltb, List, [], ◌∷◌, ◌++◌, map, length, get_or, take, drop, set, filter_map, find}
use Rattle.bidi_base.proofs.Common.{Option, Some, None, option_map, refl, ap, ◌∙◌, ◌⊎◌, arith, inl, inr, add-one, append-nil, append_assoc, common_steps, range_with_len, cases_Bool, length-map}
use Rattle.bidi_base.proofs.Common.{map_push, take-map, get_or-map, drop_more, drop_all, All-nil, filter-append, filter_map-append, find-append, slice_get-get_or, BidiMatchedOpeningBracket}
use Rattle.bidi_base.proofs.Common.{find_last, max_open_brackets, bracket_at, is_opening, is_closing, is_same_bracket, pairs_of, Bracket, Waiting, brackets_from, closed_before, AreWithin, IsAt}
use Rattle.bidi_base.proofs.Common.{HasRead, filter}
use Rattle.std.specs.List.{slice_get}
use Rattle.bidi_base.proofs.ChainLemmas.{range_with_len-append}
use Rattle.bidi_base.proofs.PlacesLemmas.{find_last-index, range_with_len-more}
use Rattle.bidi_base.proofs.NestedPairs.{closed_before-pairs}
use Rattle.bidi_base.proofs.OpeningSearch.{find_last-entries}
use Rattle.bidi_base.proofs.PairsLemmas.{IsUnderWay-start, IsUnderWay-other, IsUnderWay-opening, IsUnderWay-unmatched, IsUnderWay-pair, IsUnderWay-entry, pairs_of-found}
use Rattle.bidi_base.specs.declared.brackets.PairSearch.{PairSearch}
use Rattle.bidi_base.specs.PairSearch.{opens, openings, pair_at, entry_of, closed_slots, IsPairing}
use Rattle.bidi_base.proofs.Lists.{find-passes, find-index, filter_map-same, cases_Option}

-- the numbers from `low` on below i that pass a test
module _ (p : ℕ → Bool) (i : ℕ) where
  abbrev below : ℕ → List ℕ
  below low = filter p (range_with_len low (i - low))

  below_next : (low : ℕ) → low < i → below low ≡ cond (p low) (low ∷ below (low + 1)) (below (low + 1))
  below_next low less = grind arith

  below_none : (low : ℕ) → low ≡ i → below low ≡ []
  below_none low here = let none : i - low ≡ 0 = omega arith in ap (λ n. filter p (range_with_len low n)) none

-- those that pass in a range, each mapped, where the map changes at i alone
module _ {X : Type 0} (p : ℕ → Bool) (i : ℕ) (passes : p i ≡ true) (f g : ℕ → X) (same : (k : ℕ) → (k ≡ i → ⊥) → f k ≡ g k) where
  same_above : (from n : ℕ) → i < from → map f (filter p (range_with_len from n)) ≡ map g (filter p (range_with_len from n))
  same_above from zero order = refl
  same_above from (suc n) order = grind (arith, same_above (from + 1) n, same from)

  pub set_at : (low n : ℕ) → low ≤ i → i < low + n → set (map f (filter p (range_with_len low n))) (length (below p i low)) (g i) ≡ map g (filter p (range_with_len low n))
  set_at low zero from to = absurd (omega arith)
  set_at low (suc n) from to = grind (arith, below_next p i low, below_none p i low, same low, same_above (low + 1) n, set_at (low + 1) n)

-- what i stands at among those that pass
pub get_at : (p : ℕ → Bool) (i low n d : ℕ) → p i ≡ true → low ≤ i → i < low + n
    → (length (below p i low) < length (filter p (range_with_len low n))) × (get_or (filter p (range_with_len low n)) (length (below p i low)) d ≡ i)
get_at p i low zero d passes from to = absurd (omega arith)
get_at p i low (suc n) d passes from to = grind (arith, below_next p i low, below_none p i low, get_at p i (low + 1) n d passes)

pub AreWithin-opening : (slots : List (ℕ × ℕ)) (p : ℕ × ℕ) (waiting : List Waiting) (e : Waiting) → AreWithin (length slots) waiting
    → e.pair ≡ length slots → AreWithin (length (slots ++ p ∷ [])) (waiting ++ e ∷ [])
AreWithin-opening slots p waiting e h is = grind (arith, common_steps)

pub AreWithin-pair : (slots : List (ℕ × ℕ)) (i k : ℕ) (p : ℕ × ℕ) (waiting : List Waiting) → AreWithin (length slots) waiting → AreWithin (length (set slots i p)) (take k waiting)
AreWithin-pair slots i k p waiting h = grind (arith, common_steps)

module _ (counted : List (Option BidiMatchedOpeningBracket)) where
  openings_more : (j : ℕ) → openings counted (j + 1) ≡ openings counted j ++ cond (opens counted j) (j ∷ []) []
  openings_more j =
      let more : range_with_len 0 (j + 1) ≡ range_with_len 0 j ++ (0 + j) ∷ [] =
      ap (range_with_len 0) (add-one j) ∙ range_with_len-more 0 j in
      grind (arith, more, filter-append)

  openings_same : (j : ℕ) → opens counted j ≡ false → openings counted (j + 1) ≡ openings counted j
  openings_same j other = grind (arith, openings_more, append-nil)

  -- no pair that is closed before j begins at j or later
  none_from : (j i : ℕ) → j ≤ i → find (λ (p : ℕ × ℕ). eqb p.0 i) (closed_before counted j) ≡ None
  none_from j i order = elim (cases_Option (find (λ (p : ℕ × ℕ). eqb p.0 i) (closed_before counted j))) [
    | inl e ↦ e
    | inr p ↦ grind (
      arith,
      find-index (λ (q : ℕ × ℕ). eqb q.0 i) (closed_before counted j) p.0 (0, 0) p.1,
      closed_before-pairs,
      find-passes (λ (q : ℕ × ℕ). eqb q.0 i) (closed_before counted j) p.0 p.1,
    )
  ]

  -- a place that is passed over
  same_slots : (slots : List (ℕ × ℕ)) (j : ℕ) → slots ≡ map (pair_at (closed_before counted j)) (openings counted j) → opens counted j ≡ false → closed_before counted (j + 1) ≡ closed_before counted j
      → slots ≡ map (pair_at (closed_before counted (j + 1))) (openings counted (j + 1))
  same_slots slots j found other same = grind (arith, openings_same)

  IsPairing-none : (slots : List (ℕ × ℕ)) (waiting : List Waiting) (j : ℕ) → IsPairing counted slots waiting j → j < length counted
      → bracket_at counted j ≡ None → IsPairing counted slots waiting (j + 1)
  IsPairing-none slots waiting j h fits is =
      grind (arith, IsUnderWay-other counted j h.places h.under_way, same_slots slots j)

  IsPairing-opening : (slots : List (ℕ × ℕ)) (waiting : List Waiting) (j : ℕ) (b : BidiMatchedOpeningBracket) → IsPairing counted slots waiting j → j < length counted → bracket_at counted j ≡ Some b
      → b.is_open ≡ true → length waiting < max_open_brackets → IsPairing counted (slots ++ (j, j) ∷ []) (waiting ++ record { opening = b.opening; pair = length slots } ∷ []) (j + 1)
  IsPairing-opening slots waiting j b h fits is opening few =
      let here : opens counted j ≡ true = ap is_opening is ∙ opening in
      let next = IsUnderWay-opening counted j h.places h.under_way here (grind (arith, length-map)) in
      record {
        places = h.places ++ j ∷ [];
        under_way = next.0;
        entries = grind (arith, map_push, length-map);
        found = simp (next.1, openings_more, here, map_push, none_from j j (omega arith), h.found);
        inside = omega arith;
      }

  -- the search over the entries is one over the openings
  search_is : (slots : List (ℕ × ℕ)) (waiting : List Waiting) (j : ℕ) (b : BidiMatchedOpeningBracket) (h : IsPairing counted slots waiting j) → bracket_at counted j ≡ Some b
      → find_last (λ (e : Waiting). eqb e.opening b.opening) waiting ≡ option_map (entry_of counted) (find_last (λ i. is_same_bracket (bracket_at counted i) (bracket_at counted j)) h.places)
  search_is slots waiting j b h is = grind (arith, find_last-entries)

  IsPairing-unmatched : (slots : List (ℕ × ℕ)) (waiting : List Waiting) (j : ℕ) (b : BidiMatchedOpeningBracket) → IsPairing counted slots waiting j → j < length counted → bracket_at counted j ≡ Some b
      → b.is_open ≡ false → find_last (λ (e : Waiting). eqb e.opening b.opening) waiting ≡ None → IsPairing counted slots waiting (j + 1)
  IsPairing-unmatched slots waiting j b h fits is closes none =
      let next = IsUnderWay-unmatched counted j h.places h.under_way (ap is_closing is ∙ ap not closes)
      (grind (arith, search_is slots waiting j b h is)) in
      record { places = h.places; under_way = next.0; entries = h.entries; found = same_slots slots j h.found (ap is_opening is ∙ closes) next.1; inside = omega arith }

  -- where an opening before j stands among them
  place_of : (i j : ℕ) → opens counted i ≡ true → i < j → (length (openings counted i) < length (openings counted j)) × (get_or (openings counted j) (length (openings counted i)) 0 ≡ i)
  place_of i j opening before = grind (arith, (let same : i - 0 ≡ i = omega arith in same), get_at (opens counted) i 0 j 0)

  -- the opening that a search over the entries finds
  found_opening : (slots : List (ℕ × ℕ)) (waiting : List Waiting) (j k : ℕ) (b : BidiMatchedOpeningBracket) (h : IsPairing counted slots waiting j)
      → bracket_at counted j ≡ Some b → k < length h.places
      → find_last (λ (e : Waiting). eqb e.opening b.opening) waiting ≡ Some (entry_of counted (get_or h.places k 0))
      → find_last (λ i. is_same_bracket (bracket_at counted i) (bracket_at counted j)) h.places ≡ Some (get_or h.places k 0)
  found_opening slots waiting j k b h is fits hit =
      elim (cases_Option (find_last (λ i. is_same_bracket (bracket_at counted i) (bracket_at counted j)) h.places)) [
        | inl f ↦ absurd (cc (search_is slots waiting j b h is, hit, f))
        | inr (x, f) ↦
            let at = find_last-index (λ i. is_same_bracket (bracket_at counted i) (bracket_at counted j)) h.places x 0 f in
            let waits = IsUnderWay-entry counted j h.places k h.under_way fits in
            let waits1 = simp at.2 at (IsUnderWay-entry counted j h.places at.0 h.under_way at.1) in
            let same : entry_of counted x ≡ entry_of counted (get_or h.places k 0) =
            grind (arith, search_is slots waiting j b h is) in
            grind (arith, place_of x j waits1.opening waits1.below, place_of (get_or h.places k 0) j waits.opening waits.below)
      ]

  IsPairing-pair : (slots : List (ℕ × ℕ)) (waiting : List Waiting) (j k : ℕ) (b : BidiMatchedOpeningBracket) (e : Waiting) (old : ℕ × ℕ)
      → IsPairing counted slots waiting j → j < length counted → bracket_at counted j ≡ Some b
      → b.is_open ≡ false → k < length waiting → find_last (λ (w : Waiting). eqb w.opening b.opening) waiting ≡ Some e → get_or waiting k e ≡ e
      → old ≡ get_or slots e.pair old → IsPairing counted (set slots e.pair (old.0, j)) (take k waiting) (j + 1)
  IsPairing-pair slots waiting j k b e old h fits is closes below hit at before =
      let i = get_or h.places k 0 in
      let closed = closed_before counted j in
      let inside : k < length h.places = grind (arith, length-map) in
      let entry : e ≡ entry_of counted i = grind (arith, get_or-map) in
      let waits = IsUnderWay-entry counted j h.places k h.under_way inside in
      let next = IsUnderWay-pair counted j h.places k h.under_way (ap is_closing is ∙ ap not closes) inside
      (found_opening slots waiting j k b h is inside (hit ∙ ap Some entry)) in
      let spot = place_of i j waits.opening waits.below in
      let first : old.0 ≡ i = grind (arith, h.found, get_or-map) in
      let zero_less : i - 0 ≡ i = omega arith in
      let new : pair_at (closed ++ (i, j) ∷ []) i ≡ (i, j) = grind (arith, find-append, waits.unpaired) in
      let put = simp (zero_less, new)
      at (set_at (opens counted) i waits.opening (pair_at closed) (pair_at (closed ++ (i, j) ∷ [])) (λ k other. grind (arith, find-append)) 0 j (omega arith) (omega (arith, waits.below))) in
      record {
        places = take k h.places;
        under_way = next.0;
        entries = simp (h.entries, take-map);
        found = simp (entry, first, h.found, next.1, openings_same j (ap is_opening is ∙ closes)) put;
        inside = omega arith;
      }

  -- what is at i once the openings without a closing are left out
  abbrev kept_at : List (ℕ × ℕ) → ℕ → Option (ℕ × ℕ)
  kept_at pairs i = cond (opens counted i) (cond (ltb (pair_at pairs i).0 (pair_at pairs i).1) (Some (pair_at pairs i)) None) None

  kept_slots : (pairs : List (ℕ × ℕ)) (low n : ℕ)
      → filter (λ (p : ℕ × ℕ). ltb p.0 p.1) (map (pair_at pairs) (filter (opens counted) (range_with_len low n))) ≡ filter_map (kept_at pairs) (range_with_len low n)
  kept_slots pairs low zero = refl
  kept_slots pairs low (suc n) = grind (arith, kept_slots pairs (low + 1) n)

  kept_is : (j i : ℕ) → kept_at (closed_before counted j) i ≡ find (λ (p : ℕ × ℕ). eqb p.0 i) (closed_before counted j)
  kept_is j i = elim (cases_Option (find (λ (p : ℕ × ℕ). eqb p.0 i) (closed_before counted j))) [
    | inl e ↦ grind arith
    | inr p ↦ grind (
      arith,
      find-index (λ (q : ℕ × ℕ). eqb q.0 i) (closed_before counted j) p.0 (0, 0) p.1,
      closed_before-pairs,
      find-passes (λ (q : ℕ × ℕ). eqb q.0 i) (closed_before counted j) p.0 p.1,
    )
  ]

  filter_map_none : (f : ℕ → Option (ℕ × ℕ)) (low n : ℕ) → ((k : ℕ) → low ≤ k → f k ≡ None) → filter_map f (range_with_len low n) ≡ []
  filter_map_none f low zero none = refl
  filter_map_none f low (suc n) none = grind (arith, none low, filter_map_none f (low + 1) n)

  -- where the search ends, the openings that have a closing are the pairs
  IsPairing-end : (slots : List (ℕ × ℕ)) (waiting : List Waiting) (j : ℕ) → IsPairing counted slots waiting j → (j ≡ length counted) ⊎ ((opens counted j ≡ true) × (max_open_brackets ≤ length waiting))
      → filter (λ (p : ℕ × ℕ). ltb p.0 p.1) slots ≡ pairs_of counted
  IsPairing-end slots waiting j h ended =
      let begins : ℕ → Option (ℕ × ℕ) = λ i. find (λ (p : ℕ × ℕ). eqb p.0 i) (closed_before counted j) in
      let place : j + (length counted - j) ≡ length counted = omega (arith, h.inside) in
      let split = simp place at (range_with_len-append 0 j (length counted - j)) in
      grind (
        arith,
        kept_slots (closed_before counted j) 0 j,
        filter_map-same (kept_at (closed_before counted j)) begins (range_with_len 0 j) (kept_is j),
        pairs_of-found counted j h.places h.under_way h.inside,
        length-map,
        split,
        filter_map-append,
        filter_map_none begins (0 + j) (length counted - j) (λ k from. none_from j k (omega arith)),
        append-nil,
      )

  -- the next bracket that counts
  record IsNext (slots : List (ℕ × ℕ)) (waiting : List Waiting) (bracket : Bracket) (rest : List Bracket) : Type 0 where
    pairing : IsPairing counted slots waiting bracket.index
    fits : bracket.index < length counted
    is : bracket_at counted bracket.index ≡ Some (record { opening = bracket.opening; is_open = bracket.is_open })
    left : rest ≡ brackets_from (bracket.index + 1) (drop (bracket.index + 1) counted)

  here : (j : ℕ) → j < length counted → (o : Option BidiMatchedOpeningBracket) → bracket_at counted j ≡ o → brackets_from j (drop j counted) ≡ brackets_from j (o ∷ drop (j + 1) counted)
  here j fits o is = simp (drop_more counted j None fits, is)

  skip : (n j : ℕ) (slots : List (ℕ × ℕ)) (waiting : List Waiting) (bracket : Bracket) (rest : List Bracket) → j + n ≡ length counted
      → IsPairing counted slots waiting j → bracket ∷ rest ≡ brackets_from j (drop j counted) → IsNext slots waiting bracket rest
  skip zero j slots waiting bracket rest size h left = grind (arith, drop_all j counted)
  skip (suc n) j slots waiting bracket rest size h left = elim (cases_Option (bracket_at counted j)) [
    | inl is ↦ skip n (j + 1) slots waiting bracket rest (omega arith) (IsPairing-none slots waiting j h (omega arith) is)
        (left ∙ here j (omega arith) None is)
    | inr (b, is) ↦
        let both = left ∙ here j (omega arith) (Some b) is in
        let first : bracket ≡ record { index = j; opening = b.opening; is_open = b.is_open } = cc both in
        simp first (record { pairing = h; fits = omega arith; is = is; left = cc both })
  ]

  skip_all : (n j : ℕ) (slots : List (ℕ × ℕ)) (waiting : List Waiting) → j + n ≡ length counted → IsPairing counted slots waiting j
      → [] ≡ brackets_from j (drop j counted) → IsPairing counted slots waiting (length counted)
  skip_all zero j slots waiting size h left = let end : j ≡ length counted = omega arith in simp (← end) h
  skip_all (suc n) j slots waiting size h left = elim (cases_Option (bracket_at counted j)) [
    | inl is ↦ skip_all n (j + 1) slots waiting (omega arith) (IsPairing-none slots waiting j h (omega arith) is)
        (left ∙ here j (omega arith) None is)
    | inr (b, is) ↦ absurd (cc (left, here j (omega arith) (Some b) is))
  ]

  next : (slots : List (ℕ × ℕ)) (waiting : List Waiting) (bracket : Bracket) (rest : List Bracket) → IsAt counted slots waiting (bracket ∷ rest) → IsNext slots waiting bracket rest
  next slots waiting bracket rest h = let inside = h.pairing.inside in skip (length counted - h.place) h.place slots waiting bracket rest (omega arith) h.pairing h.left

  pub IsAt-start : (slots : List (ℕ × ℕ)) (waiting : List Waiting) (all : List Bracket) → slots ≡ [] → waiting ≡ [] → all ≡ brackets_from 0 counted → IsAt counted slots waiting all
  IsAt-start slots waiting all empty none is = grind (arith, IsUnderWay-start counted)

  pub IsAt-opening : (slots : List (ℕ × ℕ)) (waiting : List Waiting) (bracket : Bracket) (rest : List Bracket)
      → IsAt counted slots waiting (bracket ∷ rest) → bracket.is_open ≡ true → length waiting < max_open_brackets
      → IsAt counted (slots ++ (bracket.index, bracket.index) ∷ []) (waiting ++ record { opening = bracket.opening; pair = length slots } ∷ []) rest
  IsAt-opening slots waiting bracket rest h opening few =
      let n = next slots waiting bracket rest h in
      record { place = bracket.index + 1; pairing = IsPairing-opening slots waiting bracket.index (record { opening = bracket.opening; is_open = bracket.is_open }) n.pairing n.fits n.is opening few; left = n.left }

  pub IsAt-unmatched : (slots : List (ℕ × ℕ)) (waiting : List Waiting) (bracket : Bracket) (rest : List Bracket) → IsAt counted slots waiting (bracket ∷ rest) → bracket.is_open ≡ false
      → find_last (λ (e : Waiting). eqb e.opening bracket.opening) waiting ≡ None → IsAt counted slots waiting rest
  IsAt-unmatched slots waiting bracket rest h closes none =
      let n = next slots waiting bracket rest h in
      record { place = bracket.index + 1; pairing = IsPairing-unmatched slots waiting bracket.index (record { opening = bracket.opening; is_open = bracket.is_open }) n.pairing n.fits n.is closes none; left = n.left }

  pub IsAt-pair : (slots : List (ℕ × ℕ)) (waiting : List Waiting) (bracket : Bracket) (rest : List Bracket) (k : ℕ) (e : Waiting) (old : ℕ × ℕ)
      → IsAt counted slots waiting (bracket ∷ rest) → bracket.is_open ≡ false → k < length waiting
      → find_last (λ (w : Waiting). eqb w.opening bracket.opening) waiting ≡ slice_get waiting k → get_or waiting k e ≡ e → old ≡ get_or slots e.pair old
      → IsAt counted (set slots e.pair (old.0, bracket.index)) (take k waiting) rest
  IsAt-pair slots waiting bracket rest k e old h closes below hit at before =
      let n = next slots waiting bracket rest h in
      record {
        place = bracket.index + 1;
        pairing = IsPairing-pair slots waiting bracket.index k (record { opening = bracket.opening; is_open = bracket.is_open }) e old n.pairing n.fits n.is closes below (hit ∙ slice_get-get_or waiting k e below ∙ ap Some at) at before;
        left = n.left;
      }

  pub IsAt-full : (slots : List (ℕ × ℕ)) (waiting : List Waiting) (bracket : Bracket) (rest : List Bracket)
      → IsAt counted slots waiting (bracket ∷ rest) → bracket.is_open ≡ true → max_open_brackets ≤ length waiting
      → filter (λ (p : ℕ × ℕ). ltb p.0 p.1) slots ≡ pairs_of counted
  IsAt-full slots waiting bracket rest h opening full =
      grind (arith, next slots waiting bracket rest h, IsPairing-end slots waiting bracket.index)

  pub IsAt-end : (slots : List (ℕ × ℕ)) (waiting : List Waiting) → IsAt counted slots waiting [] → filter (λ (p : ℕ × ℕ). ltb p.0 p.1) slots ≡ pairs_of counted
  IsAt-end slots waiting h = IsPairing-end slots waiting (length counted)
      (skip_all (length counted - h.place) h.place slots waiting
      (omega (arith, h.pairing.inside)) h.pairing h.left) (inl refl)

-- a search that begins
pub HasRead-start : (s : PairSearch) → s.waiting.items ≡ [] → s.pairs.items ≡ [] → s.is_over ≡ false → HasRead s []
HasRead-start s waiting pairs over = grind (arith, All-nil, IsAt-start)

-- and one that ends
pub HasRead-end : (s : PairSearch) (all : List Bracket) → HasRead s all → (counted : List (Option BidiMatchedOpeningBracket))
    → all ≡ brackets_from 0 counted → filter (λ (p : ℕ × ℕ). ltb p.0 p.1) s.pairs.items ≡ pairs_of counted
HasRead-end s all h counted is = elim (cases_Bool s.is_over) [
  | inl over ↦ h.ended over counted [] (append-nil all ∙ is)
  | inr goes_on ↦ IsAt-end counted s.pairs.items s.waiting.items (h.goes_on goes_on counted [] (append-nil all ∙ is))
]

-- one bracket more
module _ (before : List Bracket) (b : Bracket) where
  pub HasRead-next : (s t : PairSearch) → HasRead s before → s.is_over ≡ false → AreWithin (length t.pairs.items) t.waiting.items → (more : Bool) → t.is_over ≡ not more
      → (more ≡ true → (counted : List (Option BidiMatchedOpeningBracket)) (rest : List Bracket) → IsAt counted s.pairs.items s.waiting.items (b ∷ rest) → IsAt counted t.pairs.items t.waiting.items rest)
      → (more ≡ false → (counted : List (Option BidiMatchedOpeningBracket)) (rest : List Bracket) → IsAt counted s.pairs.items s.waiting.items (b ∷ rest) → closed_slots t.pairs.items ≡ pairs_of counted) → HasRead t (before ++ b ∷ [])
  HasRead-next s t h fresh within more over goes_on ends = record {
    within = within;
    goes_on = λ is counted rest all. goes_on (grind (arith, over, is)) counted rest (h.goes_on fresh counted (b ∷ rest) (simp append_assoc at all));
    ended = λ is counted rest all. ends (grind (arith, over, is)) counted rest (h.goes_on fresh counted (b ∷ rest) (simp append_assoc at all));
  }
