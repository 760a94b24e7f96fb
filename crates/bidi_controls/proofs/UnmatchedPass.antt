-- The pass over a line: what is open, and which of the characters read so far are controls without a match.
use Rattle.bidi_base.proofs.Common.{◌≡◌, ℕ, ◌+◌, ◌<◌, Bool, true, false, ◌||◌, ◌&&◌, cond, leb, List, [], ◌∷◌, ◌++◌, length, get_or, map, find, Option, Some, None, refl, sym, ap, ◌∙◌, arith}
use Rattle.bidi_base.proofs.Common.{length-append, add-one, list_any, range_with_len, cases_lt, false_from_ne_true, length-set, get_or_append_left, get_or_push, fill_by_all, length-range_with_len}
use Rattle.bidi_base.proofs.Common.{get_or-range_with_len, list_any_none, list_any_at, is_opener, class_at, between, is_isolate_initiator_at, is_some, get_or-set_same, get_or-set_other}
use Rattle.std.specs.Prelude.{is_none}
use Rattle.bidi_base.specs.declared.char_data.BidiClass.{BidiClass}
use Rattle.bidi_base.proofs.ChainLemmas.{holds_number-true}
use Rattle.bidi_laws.proofs.OpenersStack.{openers_read, closed_by, opened_by, left_at, below_isolate}
use Rattle.bidi_controls.specs.declared.openers.Opener.{Opener}
use Rattle.bidi_controls.specs.OpenOpeners.{innermost_isolate, outside_isolate, closed_place, left_open, then_open, with_closed}
use Rattle.bidi_controls.specs.Matches.{is_control, closer_of, is_closed_by, closes_nothing, is_unmatched}
use Rattle.bidi_controls.proofs.ClosedOpeners.{closed_opener, closed_opener-IsCloser, IsCloser-closed_opener, closer_of-within}

-- ---- the openers, as their indexes

-- the opener at an index
abbrev pub opener_at : List BidiClass → ℕ → Opener
opener_at classes q = record { place = q; is_isolate = is_isolate_initiator_at classes q }

abbrev pub openers_at : List BidiClass → List ℕ → List Opener
openers_at classes stack = map (opener_at classes) stack

innermost_isolate-at : (classes : List BidiClass) (stack : List ℕ) → innermost_isolate (openers_at classes stack) ≡ find (is_isolate_initiator_at classes) stack
innermost_isolate-at classes [] = refl
innermost_isolate-at classes (q ∷ stack) = ap (λ rest. cond (is_isolate_initiator_at classes q) (Some q) rest) (innermost_isolate-at classes stack)

-- outside the innermost isolate, or the whole if there is none
left_by_pdi : (classes : List BidiClass) (whole stack : List ℕ)
    → cond (is_some (innermost_isolate (openers_at classes stack))) (outside_isolate (openers_at classes stack)) (openers_at classes whole) ≡ openers_at classes (below_isolate classes whole stack)
left_by_pdi classes whole [] = refl
left_by_pdi classes whole (q ∷ stack) = grind (arith, left_by_pdi classes whole stack)

module _ (classes : List BidiClass) (p : ℕ) (stack : List ℕ) where
  closed_place-at : closed_place (class_at classes p) (openers_at classes stack) ≡ closed_opener classes p stack
  unfolding closed_opener
  closed_place-at = grind (arith, innermost_isolate-at)

  left_open-at : left_open (class_at classes p) (openers_at classes stack) ≡ openers_at classes (closed_by classes p stack)
  unfolding closed_by
  left_open-at = grind (arith, left_by_pdi)

  then_open-at : then_open p (class_at classes p) (openers_at classes stack) ≡ openers_at classes (opened_by classes p stack)
  unfolding opened_by
  then_open-at = grind arith

-- ---- controls without a match among the characters read so far

-- the match, if there is one, is not among the first p characters
abbrev pub is_from : ℕ → Option ℕ → Bool
is_from p None = true
is_from p (Some m) = leb p m

abbrev pub unmatched_by : List BidiClass → ℕ → ℕ → Bool
unmatched_by classes p k = (is_opener (class_at classes k) && is_from p (closer_of classes k)) || closes_nothing classes k

module _ (classes : List BidiClass) where
  -- what the character p closes, by the openers before it
  abbrev closed : ℕ → Option ℕ
  closed p = closed_opener classes p (openers_read classes p)

  -- another character reads on past an opener that it does not close
  unmatched_by-other : (p k : ℕ) → (closed p ≡ Some k → ⊥) → unmatched_by classes (p + 1) k ≡ unmatched_by classes p k
  unmatched_by-other p k apart = grind (arith, IsCloser-closed_opener)

  -- whether it closes something itself
  closes_some : (p : ℕ) → p < length classes → list_any (is_closed_by classes p) (between 0 p) ≡ is_some (closed p)
  closes_some p fits = by_closed (closed p) refl
    where
      by_closed : (o : Option ℕ) → closed p ≡ o → list_any (is_closed_by classes p) (between 0 p) ≡ is_some o
      by_closed None e = list_any_none (is_closed_by classes p) (between 0 p) (λ q d within. false_from_ne_true (is_closed_by classes p (get_or (between 0 p) q d)) (λ f. grind (arith, IsCloser-closed_opener, holds_number-true)))
      by_closed (Some q) e =
          grind (arith, closed_opener-IsCloser classes p q fits e, list_any_at (is_closed_by classes p) (between 0 p) q 0, length-range_with_len, get_or-range_with_len)

  -- an opener closes nothing
  opener_closes_none : (p : ℕ) → is_opener (class_at classes p) ≡ true → closed p ≡ None
  unfolding closed_opener
  opener_closes_none p opener = grind arith

  -- the character read last
  unmatched_by-last : (p : ℕ) → p < length classes → unmatched_by classes (p + 1) p ≡ (is_none (closed p) && is_control (class_at classes p))
  unmatched_by-last p fits = grind (arith, opener_closes_none, closes_some, closer_of-within)

  -- ---- the pass

  -- p characters were read, these openers are open, and these are the controls without a match so far
  pub record IsReadSoFar (p : ℕ) (openers : List Opener) (unmatched : List Bool) : Type 0 where
    pub are_open : openers ≡ openers_at classes (openers_read classes p)
    pub long : length unmatched ≡ p
    pub each : (k : ℕ) → k < p → get_or unmatched k false ≡ unmatched_by classes p k

  pub IsReadSoFar-start : (openers : List Opener) (unmatched : List Bool) → openers ≡ [] → unmatched ≡ [] → IsReadSoFar 0 openers unmatched
  unfolding openers_read
  IsReadSoFar-start openers unmatched none empty = grind arith

  -- what is closed is among what was read
  pub IsReadSoFar-closed : (p : ℕ) (openers : List Opener) (unmatched : List Bool) (o : Option ℕ) → p < length classes → IsReadSoFar p openers unmatched
      → o ≡ closed_place (class_at classes p) openers → o ≡ closed p
  IsReadSoFar-closed p openers unmatched o fits h e = grind (arith, closed_place-at)

  pub IsReadSoFar-room : (p : ℕ) (openers : List Opener) (unmatched : List Bool) (o : Option ℕ) → p < length classes → IsReadSoFar p openers unmatched
      → o ≡ closed_place (class_at classes p) openers → (q : ℕ) → o ≡ Some q → q < length unmatched
  IsReadSoFar-room p openers unmatched o fits h e q some =
      grind (arith, h, IsReadSoFar-closed p openers unmatched o fits h e, closed_opener-IsCloser classes p q)

  length-with_closed : (o : Option ℕ) (unmatched : List Bool) → length (with_closed o unmatched) ≡ length unmatched
  length-with_closed o unmatched = grind (arith, length-set)

  with_closed-each : (p k : ℕ) (unmatched : List Bool) (o : Option ℕ) → p < length classes → length unmatched ≡ p → k < p → closed p ≡ o
      → get_or unmatched k false ≡ unmatched_by classes p k → get_or (with_closed o unmatched) k false ≡ unmatched_by classes (p + 1) k
  with_closed-each p k unmatched o fits long before e same =
      grind (arith, unmatched_by-other, get_or-set_same, closed_opener-IsCloser, get_or-set_other)

  pub IsReadSoFar-more : (p : ℕ) (c : BidiClass) (openers left now : List Opener) (o : Option ℕ) (unmatched next : List Bool) → p < length classes → class_at classes p ≡ c
      → IsReadSoFar p openers unmatched → o ≡ closed_place c openers → left ≡ left_open c openers → now ≡ then_open p c left
      → next ≡ with_closed o unmatched ++ (is_none o && is_control c) ∷ [] → IsReadSoFar (p + 1) now next
  unfolding openers_read
  IsReadSoFar-more p c openers left now o unmatched next fits is h e left_is now_is next_is =
      let closes : o ≡ closed p = IsReadSoFar-closed p openers unmatched o fits h (e ∙ ap (λ x. closed_place x openers) (sym is)) in
      record {
        are_open = simp (now_is, left_is, ← is, h.are_open, left_open-at classes p (openers_read classes p), then_open-at classes p (left_at classes p), add-one p);
        long = simp (next_is, length-append, length-with_closed o unmatched, h.long);
        each = λ k before. grind (arith, closes, h.long, h.each k, cases_lt k p, length-with_closed, get_or_append_left, get_or_push, with_closed-each p k unmatched o, unmatched_by-last p);
      }

  -- at the line's end
  unmatched_by-end : (k : ℕ) → unmatched_by classes (length classes) k ≡ is_unmatched classes k
  unfolding is_unmatched
  unmatched_by-end k = grind (arith, closer_of-within)

  pub IsReadSoFar-end : (openers : List Opener) (unmatched : List Bool) (p : ℕ) → p ≡ length classes → IsReadSoFar p openers unmatched → unmatched ≡ map (is_unmatched classes) (range_with_len 0 p)
  IsReadSoFar-end openers unmatched p all h = fill_by_all (is_unmatched classes) unmatched p false h.long
      (λ k before. h.each k before ∙ ap (λ (n : ℕ). unmatched_by classes n k) all ∙ unmatched_by-end k)
