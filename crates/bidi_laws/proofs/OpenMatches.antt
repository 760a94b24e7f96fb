-- Openings and their matches: a closing matches the innermost opening that is open before it, so no two openings have
-- one match.
use Rattle.bidi_base.proofs.Common.{◌≡◌, ℕ, zero, suc, ◌+◌, ◌<◌, Bool, true, false, List, [], ◌∷◌, Some, refl, sym, ap, arith, inl, inr, eqb-true, is_closed_at, match_of}
use Rattle.bidi_base.proofs.PlacesLemmas.{find-between-is}
use Rattle.bidi_laws.proofs.MatchingLemmas.{at_most_one, match_of-IsLeast}
use Rattle.bidi_laws.proofs.ReadStack.{Member, read_closed, read_opened, IsOpenUnder-count, IsOpenUnder-closed, AreOpen, IsReadStack, IsReadStack-start, IsReadStack-more}

module _ (opens closes : ℕ → Bool) (apart : (k : ℕ) → opens k ≡ true → closes k ≡ false) where
  -- a closing matches the innermost opening that is open before it
  pub IsReadStack-match : (n m q : ℕ) (stack : List ℕ) → IsReadStack opens closes m (q ∷ stack) → closes m ≡ true → m < n → match_of opens closes n q ≡ Some m
  unfolding match_of
  IsReadStack-match n m q stack h here within =
      find-between-is (is_closed_at opens closes q) (q + 1) n m (grind (
        arith,
        IsOpenUnder-closed opens closes m q,
        apart m,
        h.are_open.1,
      ))

  -- what is closed at m has none above it
  none_above : (m depth q : ℕ) (stack : List ℕ) → AreOpen opens closes m depth stack → Member q stack → is_closed_at opens closes q m ≡ true → depth ≡ 0
  none_above m depth q [] h member closed = absurd member
  none_above m depth q (x ∷ stack) h member closed = grind (arith, IsOpenUnder-count opens closes m depth x, eqb-true, at_most_one (closes m), none_above m (depth + 1) q stack)

  -- and no other opening matches it
  pub IsReadStack-matched : (n m q : ℕ) (stack : List ℕ) → IsReadStack opens closes m stack → opens q ≡ true → match_of opens closes n q ≡ Some m → (rest : List ℕ) × (stack ≡ q ∷ rest)
  IsReadStack-matched n m q stack h opening e = grind (arith, match_of-IsLeast opens closes n q m e, on_top)
    where
      on_top : (stack : List ℕ) → AreOpen opens closes m 0 stack → Member q stack → (rest : List ℕ) × (stack ≡ q ∷ rest)
      on_top [] are member = absurd member
      on_top (x ∷ stack) are (inl same) = (stack, ap {B = List ℕ} (λ y. y ∷ stack) (sym same))
      on_top (x ∷ stack) are (inr below) = absurd (omega (arith, none_above m 1 q stack are.2 below (match_of-IsLeast opens closes n q m e).passes))

  -- where none is open before it, it matches none
  pub IsReadStack-no_match : (n m q : ℕ) → IsReadStack opens closes m [] → opens q ≡ true → match_of opens closes n q ≡ Some m → ⊥
  IsReadStack-no_match n m q h opening e = cc (IsReadStack-matched n m q [] h opening e).1

  some_stack : (m : ℕ) → (stack : List ℕ) × IsReadStack opens closes m stack
  some_stack zero = ([], IsReadStack-start opens closes)
  some_stack (suc m) =
      let h = some_stack m in
      (read_opened (opens m) m (read_closed (closes m) h.0), grind (arith, IsReadStack-more opens closes m (opens m) (closes m) h.0 refl refl (apart m) h.1))

  -- two openings have no match in common
  pub match_of-injective : (n p r q : ℕ) → opens p ≡ true → opens r ≡ true → match_of opens closes n p ≡ Some q → match_of opens closes n r ≡ Some q → p ≡ r
  match_of-injective n p r q opens_p opens_r e f =
      grind (arith, some_stack q, IsReadStack-matched n q p, IsReadStack-matched n q r)
