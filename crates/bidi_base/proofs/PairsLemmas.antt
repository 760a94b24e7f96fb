-- Bracket pairs in one pass from the front: what is closed and what waits at each place, and what the pass has found at
-- its end.
use Rattle.bidi_base.proofs.Common.{◌≡◌, ℕ, zero, suc, ◌+◌, ◌-◌, ◌<◌, ◌≤◌, Bool, true, false, ◌&&◌, eqb, ltb, leb, List, [], ◌∷◌, ◌++◌, length, get_or, take, filter_map, find, Option, Some, None}
use Rattle.bidi_base.proofs.Common.{refl, ap, subst, ◌∙◌, ◌⊎◌, arith, inl, inr, append-nil, append_assoc, add-one, lt-ltb, le-ltb, rules, common_steps, ⊤, range_with_len, AllByRecursion}
use Rattle.bidi_base.proofs.Common.{All-from_recursion, find-append, list_any-append, fold_push, BidiClass, BidiMatchedOpeningBracket, between, indexes, find_last, max_open_brackets}
use Rattle.bidi_base.proofs.Common.{counted_brackets, bracket_at, is_opening, is_closing, is_same_bracket, is_taken, is_available, available, partner, with_closing, closed_pairs, bracket_limit}
use Rattle.bidi_base.proofs.Common.{pairs_of, bracket_pairs, closed_before, IsUnderWay, and-true, filter}
use Rattle.bidi_base.specs.Brackets.{ArePairsWithin}
use Rattle.bidi_base.proofs.PlacesLemmas.{range_with_len-more, find-between-is, find-between-is_None, find_last-range_with_len}
use Rattle.bidi_base.proofs.BracketsLemmas.{AllClosedBefore, available-opening, available-pair, available-other}
use Rattle.bidi_base.proofs.Lists.{find-filter, filter-reverse, option_or-None, cases_Option}
use Rattle.std.proofs.Math.Bool.{and-false}

-- each pair begins before it ends, and ends before j
abbrev pub AreInOrder : ℕ → List (ℕ × ℕ) → Type 0
AreInOrder j [] = ⊤
AreInOrder j (p ∷ pairs) = ((p.0 < p.1) × (p.1 < j)) × AreInOrder j pairs

AreInOrder-closed : (j : ℕ) (pairs : List (ℕ × ℕ)) → AreInOrder j pairs → AllClosedBefore j pairs
AreInOrder-closed j [] h = h
AreInOrder-closed j (p ∷ pairs) h = (h.0.1, AreInOrder-closed j pairs h.1)

AreInOrder-later : (j : ℕ) (pairs : List (ℕ × ℕ)) → AreInOrder j pairs → AreInOrder (j + 1) pairs
AreInOrder-later j [] h = h
AreInOrder-later j (p ∷ pairs) h = grind (arith, AreInOrder-later j pairs)

AreInOrder-push : (j i k : ℕ) (pairs : List (ℕ × ℕ)) → AreInOrder j pairs → i < k → k < j → AreInOrder j (pairs ++ (i, k) ∷ [])
AreInOrder-push j i k [] h l m = ((l, m), h)
AreInOrder-push j i k (p ∷ pairs) h l m = (h.0, AreInOrder-push j i k pairs h.1 l m)

-- each pair ends at k or later
abbrev AreClosedFrom : ℕ → List (ℕ × ℕ) → Type 0
AreClosedFrom k [] = ⊤
AreClosedFrom k (p ∷ pairs) = (k ≤ p.1) × AreClosedFrom k pairs

AreClosedFrom-push : (k i j : ℕ) (pairs : List (ℕ × ℕ)) → AreClosedFrom k pairs → k ≤ j → AreClosedFrom k (pairs ++ (i, j) ∷ [])
AreClosedFrom-push k i j [] h l = (l, h)
AreClosedFrom-push k i j (p ∷ pairs) h l = (h.0, AreClosedFrom-push k i j pairs h.1 l)

filter_map-All : (Q : ℕ × ℕ → Type 0) (f : ℕ → Option (ℕ × ℕ)) → ((x : ℕ) (y : ℕ × ℕ) → f x ≡ Some y → Q y) → (xs : List ℕ) → AllByRecursion Q (filter_map f xs)
filter_map-All Q f each [] = tt
filter_map-All Q f each (x ∷ xs) = grind (arith, each x, filter_map-All Q f each xs)

module _ (brackets : List (Option BidiMatchedOpeningBracket)) where
  -- a closing pairs with the last opening that waits and has its opening character
  pub partner-available : (pairs : List (ℕ × ℕ)) (j : ℕ) → partner brackets pairs j ≡ find_last (λ i. is_same_bracket (bracket_at brackets i) (bracket_at brackets j)) (available brackets pairs j)
  unfolding partner available
  partner-available pairs j = simp (← filter-reverse (is_available brackets pairs j) (between 0 j), find-filter)

  -- one step of the pairs
  pub with_closing-none : (pairs : List (ℕ × ℕ)) (j : ℕ) → partner brackets pairs j ≡ None → with_closing brackets pairs j ≡ pairs
  unfolding with_closing
  with_closing-none pairs j none = grind (arith, append-nil)

  pub with_closing-other : (pairs : List (ℕ × ℕ)) (j : ℕ) → is_closing (bracket_at brackets j) ≡ false → with_closing brackets pairs j ≡ pairs
  unfolding with_closing
  with_closing-other pairs j other = rw other refl

  pub with_closing-pair : (pairs : List (ℕ × ℕ)) (j i : ℕ) → is_closing (bracket_at brackets j) ≡ true → partner brackets pairs j ≡ Some i → with_closing brackets pairs j ≡ pairs ++ (i, j) ∷ []
  unfolding with_closing
  with_closing-pair pairs j i closing found = rw (closing, found) refl

  pub closed_before-more : (j : ℕ) → closed_before brackets (j + 1) ≡ with_closing brackets (closed_before brackets j) j
  closed_before-more j =
      let place : 0 + j ≡ j = omega arith in simp (add-one j, range_with_len-more, place, fold_push)

  -- at j nothing is closed, or one pair that ends there
  closed_before-next : (j : ℕ) → (closed_before brackets (j + 1) ≡ closed_before brackets j) ⊎ ((i : ℕ) × (i < j) × (closed_before brackets (j + 1) ≡ closed_before brackets j ++ (i, j) ∷ []))
  unfolding partner
  closed_before-next j = elim (cases_Option (partner brackets (closed_before brackets j) j)) [
    | inl e ↦ grind (arith, closed_before-more, with_closing-none)
    | inr f ↦ grind (arith, closed_before-more, find_last-range_with_len, with_closing-pair, with_closing-other)
  ]

  pub closed_before-in_order : (j : ℕ) → AreInOrder j (closed_before brackets j)
  closed_before-in_order zero = tt
  closed_before-in_order (suc j) = subst (λ (n : ℕ). AreInOrder n (closed_before brackets n)) (add-one j)
      (grind (arith, closed_before-in_order j, closed_before-next j, AreInOrder-later, AreInOrder-push))

  pub closed_before-closed : (j : ℕ) → AllClosedBefore j (closed_before brackets j)
  closed_before-closed j = AreInOrder-closed j (closed_before brackets j) (closed_before-in_order j)

  -- what is closed later is added after
  closed_before-split : (k n : ℕ) → (later : List (ℕ × ℕ)) × (closed_before brackets (k + n) ≡ closed_before brackets k ++ later) × AreClosedFrom k later
  closed_before-split k zero = let same : k + 0 ≡ k = omega arith in ([], simp (same, append-nil), tt)
  closed_before-split k (suc n) =
      let h = closed_before-split k n in
      elim (closed_before-next (k + n)) [
        | inl same ↦ (
          h.0,
          grind (
            arith,
            h.1,
            ap (closed_before brackets)
                (let place : k + suc n ≡ k + n + 1 = omega arith in place),
          ),
          h.2,
        )
        | inr pair ↦ (
          h.0 ++ (pair.0, k + n) ∷ [],
          grind (arith, pair.2, h.1, append_assoc),
          AreClosedFrom-push k pair.0 (k + n) h.0 h.2 (omega arith),
        )
      ]

  -- at k it does not matter what is closed from there on
  is_taken-later : (pairs later : List (ℕ × ℕ)) (k i : ℕ) → AreClosedFrom k later → is_taken (pairs ++ later) k i ≡ is_taken pairs k i
  is_taken-later pairs [] k i h = grind (arith, append-nil)
  is_taken-later pairs (p ∷ later) k i h = grind (arith, list_any-append, is_taken-later pairs later k i)

  closed_before-upto : (k n : ℕ) → k ≤ n → (later : List (ℕ × ℕ)) × (closed_before brackets n ≡ closed_before brackets k ++ later) × AreClosedFrom k later
  closed_before-upto k n order = let place : k + (n - k) ≡ n = omega arith in simp place at (closed_before-split k (n - k))

  -- an opening that is taken by no pair begins none
  not_taken-find : (j i : ℕ) (pairs : List (ℕ × ℕ)) → AreInOrder j pairs → is_taken pairs j i ≡ false → find (λ p. eqb p.0 i) pairs ≡ None
  not_taken-find j i [] h free = refl
  not_taken-find j i (p ∷ pairs) h free = grind (arith, not_taken-find j i pairs h.1)

  -- what is known of each entry of the stack
  pub record IsWaiting (j i : ℕ) : Type 0 where
    pub below : i < j
    pub opening : is_opening (bracket_at brackets i) ≡ true
    pub unpaired : find (λ (p : ℕ × ℕ). eqb p.0 i) (closed_before brackets j) ≡ None

  abbrev pub AreWaiting : ℕ → ℕ → List ℕ → Type 0
  AreWaiting j low [] = ⊤
  AreWaiting j low (i ∷ is) = (low ≤ i) × IsWaiting j i × AreWaiting j (i + 1) is

  AreWaiting-from : (j low lower : ℕ) (is : List ℕ) → lower ≤ low → AreWaiting j low is → AreWaiting j lower is
  AreWaiting-from j low lower [] order h = h
  AreWaiting-from j low lower (i ∷ is) order h = (omega (arith, h.0), h.1, h.2)

  waiting_in : (j low n : ℕ) → low + n ≤ j → AreWaiting j low (filter (is_available brackets (closed_before brackets j) j) (range_with_len low n))
  waiting_in j low zero order = tt
  waiting_in j low (suc n) order =
      grind (arith, waiting_in j (low + 1) n, not_taken-find, closed_before-in_order, AreWaiting-from)

  pub available-waiting : (j : ℕ) → AreWaiting j 0 (available brackets (closed_before brackets j) j)
  unfolding available
  available-waiting j = waiting_in j 0 (j - 0) (omega arith)

  -- the entry at k, and those below it
  pub AreWaiting-get : (j low : ℕ) (is : List ℕ) (k : ℕ) → AreWaiting j low is → k < length is → IsWaiting j (get_or is k 0) × (low ≤ get_or is k 0)
  AreWaiting-get j low [] k h fits = absurd (omega arith)
  AreWaiting-get j low (i ∷ is) k h fits = grind (arith, AreWaiting-get j (i + 1) is)

  none_below : (j low i : ℕ) (is : List ℕ) → AreWaiting j low is → i ≤ low → filter (λ x. ltb x i) is ≡ []
  none_below j low i [] h order = refl
  none_below j low i (x ∷ is) h order = rw (le-ltb x i (omega (arith, h.0))) (none_below j (x + 1) i is h.2 (omega (arith, h.0)))

  pub AreWaiting-below : (j low : ℕ) (is : List ℕ) (k : ℕ) → AreWaiting j low is → k < length is → filter (λ x. ltb x (get_or is k 0)) is ≡ take k is
  AreWaiting-below j low [] k h fits = absurd (omega arith)
  AreWaiting-below j low (i ∷ is) zero h fits = rw (le-ltb i i (omega arith)) (none_below j (i + 1) i is h.2 (omega arith))
  AreWaiting-below j low (i ∷ is) (suc k) h fits = grind (arith, AreWaiting-get j (i + 1) is k h.2, AreWaiting-below j (i + 1) is k h.2)

  pub IsUnderWay-start : IsUnderWay brackets 0 []
  unfolding available
  IsUnderWay-start = record { waits = refl; room = λ k below. absurd (omega arith) }

  same_after : (j : ℕ) (waiting : List ℕ) → IsUnderWay brackets j waiting → is_opening (bracket_at brackets j) ≡ false
      → closed_before brackets (j + 1) ≡ closed_before brackets j → IsUnderWay brackets (j + 1) waiting
  same_after j waiting h other same = grind (arith, available-other, closed_before-closed)

  -- no opening and no closing
  pub IsUnderWay-other : (j : ℕ) (waiting : List ℕ) → IsUnderWay brackets j waiting → is_opening (bracket_at brackets j) ≡ false → is_closing (bracket_at brackets j) ≡ false
      → IsUnderWay brackets (j + 1) waiting × (closed_before brackets (j + 1) ≡ closed_before brackets j)
  IsUnderWay-other j waiting h no_opening no_closing = grind (arith, closed_before-more, with_closing-other, same_after)

  -- an opening goes on top
  pub IsUnderWay-opening : (j : ℕ) (waiting : List ℕ) → IsUnderWay brackets j waiting → is_opening (bracket_at brackets j) ≡ true → length waiting < max_open_brackets
      → IsUnderWay brackets (j + 1) (waiting ++ j ∷ []) × (closed_before brackets (j + 1) ≡ closed_before brackets j)
  IsUnderWay-opening j waiting h opening few = grind (arith, closed_before-more, with_closing-other, available-opening, closed_before-closed)

  partner-waiting : (j : ℕ) (waiting : List ℕ) → IsUnderWay brackets j waiting
      → partner brackets (closed_before brackets j) j ≡ find_last (λ i. is_same_bracket (bracket_at brackets i) (bracket_at brackets j)) waiting
  partner-waiting j waiting h = grind (arith, partner-available)

  -- a closing without an opening changes nothing
  pub IsUnderWay-unmatched : (j : ℕ) (waiting : List ℕ) → IsUnderWay brackets j waiting → is_closing (bracket_at brackets j) ≡ true
      → find_last (λ i. is_same_bracket (bracket_at brackets i) (bracket_at brackets j)) waiting ≡ None
      → IsUnderWay brackets (j + 1) waiting × (closed_before brackets (j + 1) ≡ closed_before brackets j)
  IsUnderWay-unmatched j waiting h closing none = grind (arith, closed_before-more, with_closing-none, partner-waiting, same_after)

  -- a closing pairs with the entry at k, and takes away all from there on
  pub IsUnderWay-pair : (j : ℕ) (waiting : List ℕ) (k : ℕ) → IsUnderWay brackets j waiting → is_closing (bracket_at brackets j) ≡ true → k < length waiting
      → find_last (λ i. is_same_bracket (bracket_at brackets i) (bracket_at brackets j)) waiting ≡ Some (get_or waiting k 0)
      → IsUnderWay brackets (j + 1) (take k waiting) × (closed_before brackets (j + 1) ≡ closed_before brackets j ++ (get_or waiting k 0, j) ∷ [])
  IsUnderWay-pair j waiting k h closing fits found =
      let same = closed_before-more j ∙ with_closing-pair (closed_before brackets j) j (get_or waiting k 0) closing
      (partner-waiting j waiting h ∙ found) in
      (grind (arith, same, available-pair, closed_before-closed j, AreWaiting-below j 0 waiting k, available-waiting j), same)

  pub IsUnderWay-entry : (j : ℕ) (waiting : List ℕ) (k : ℕ) → IsUnderWay brackets j waiting → k < length waiting → IsWaiting j (get_or waiting k 0)
  IsUnderWay-entry j waiting k h fits = grind (arith, AreWaiting-get j 0 waiting k, available-waiting j, h.waits)

  -- an opening at k finds no room
  abbrev overflows : List (ℕ × ℕ) → ℕ → Bool
  overflows pairs k = is_opening (bracket_at brackets k) && leb max_open_brackets (length (available brackets pairs k))

  -- the pass ends where it has read all brackets, or at an opening that finds no room
  abbrev pub HasEnded : ℕ → List ℕ → Type 0
  HasEnded j waiting = (j ≡ length brackets) ⊎ ((is_opening (bracket_at brackets j) ≡ true) × (max_open_brackets ≤ length waiting))

  stack_at : (k n : ℕ) → k ≤ n → available brackets (closed_before brackets n) k ≡ available brackets (closed_before brackets k) k
  unfolding available
  stack_at k n order = grind (arith, closed_before-upto k n, is_taken-later)

  has_room : (j n k : ℕ) (waiting : List ℕ) → IsUnderWay brackets j waiting → j ≤ n → k < j → overflows (closed_before brackets n) k ≡ false
  has_room j n k waiting h inside below = grind (arith, stack_at)

  -- the limit is where the pass ends
  limit_is : (j : ℕ) (waiting : List ℕ) → IsUnderWay brackets j waiting → j ≤ length brackets → HasEnded j waiting → bracket_limit brackets (closed_pairs brackets) ≡ j
  unfolding bracket_limit closed_pairs
  limit_is j waiting h inside ended =
      let n = length brackets in
      let whole : n - 0 ≡ n = omega arith in
      let room = λ (k : ℕ) (below : k < j). has_room j n k waiting h inside below in
      elim ended [
        | inl end ↦ grind (arith, whole, find-between-is_None (overflows (closed_before brackets n)) 0 n, room)
        | inr full ↦
            grind (arith, whole, find-between-is (overflows (closed_before brackets n)) 0 n j, room, stack_at j n, common_steps)
      ]

  -- which pair an opening at i has
  find_below : (j i : ℕ) (pairs : List (ℕ × ℕ)) → AllClosedBefore j pairs → find (λ p. eqb p.0 i && ltb p.1 j) pairs ≡ find (λ p. eqb p.0 i) pairs
  find_below j i [] h = refl
  find_below j i (p ∷ pairs) h = rw (lt-ltb p.1 j h.0, and-true (eqb p.0 i), find_below j i pairs h.1) refl

  find_later : (j i : ℕ) (pairs : List (ℕ × ℕ)) → AreClosedFrom j pairs → find (λ p. eqb p.0 i && ltb p.1 j) pairs ≡ None
  find_later j i [] h = refl
  find_later j i (p ∷ pairs) h = rw (le-ltb p.1 j h.0, and-false (eqb p.0 i)) (find_later j i pairs h.1)

  find_limited : (j i : ℕ) → j ≤ length brackets → find (λ p. eqb p.0 i && ltb p.1 j) (closed_before brackets (length brackets)) ≡ find (λ p. eqb p.0 i) (closed_before brackets j)
  find_limited j i inside = grind (
    arith,
    closed_before-upto j (length brackets),
    find-append,
    find_later,
    option_or-None,
    find_below,
    closed_before-closed,
  )

  -- what the pass has found are the pairs
  pub pairs_of-found : (j : ℕ) (waiting : List ℕ) → IsUnderWay brackets j waiting → j ≤ length brackets → HasEnded j waiting
      → pairs_of brackets ≡ filter_map (λ i. find (λ (p : ℕ × ℕ). eqb p.0 i) (closed_before brackets j)) (indexes brackets)
  unfolding pairs_of closed_pairs
  pairs_of-found j waiting h inside ended = simp (limit_is j waiting h inside ended, find_limited j)

  find_in_order : (j : ℕ) (test : ℕ × ℕ → Bool) (pairs : List (ℕ × ℕ)) (p : ℕ × ℕ) → AreInOrder j pairs → find test pairs ≡ Some p → (p.0 < p.1) × (p.1 < j)
  find_in_order j test [] p h e = absurd (cc e)
  find_in_order j test (q ∷ pairs) p h e = grind (arith, find_in_order j test pairs p h.1)

  -- each pair begins before it ends, within the list
  pub pairs_of-in_order : ArePairsWithin (length brackets) (pairs_of brackets)
  unfolding pairs_of closed_pairs
  pairs_of-in_order = search (rules, All-from_recursion, filter_map-All, find_in_order, closed_before-in_order)

-- the counted brackets, one a class
pub length-counted_brackets : (classes : List BidiClass) (brackets : List (Option BidiMatchedOpeningBracket))
    → length brackets ≡ length classes → length (counted_brackets classes brackets) ≡ length classes
length-counted_brackets [] brackets h = refl
length-counted_brackets (c ∷ classes) brackets h = grind (arith, length-counted_brackets classes)

-- the pairs of a sequence lie in it
pub bracket_pairs-in_order : (classes : List BidiClass) (brackets : List (Option BidiMatchedOpeningBracket)) → length brackets ≡ length classes
    → ArePairsWithin (length classes) (bracket_pairs classes brackets)
unfolding bracket_pairs
bracket_pairs-in_order classes brackets h = grind (arith, length-counted_brackets, pairs_of-in_order)
