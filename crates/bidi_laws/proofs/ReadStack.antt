-- The openings that are still open once p characters were read, innermost first: an opening is pushed, and a closing
-- pops one.
use Rattle.bidi_base.proofs.Common.{◌≡◌, ℕ, ◌+◌, ◌<◌, ◌≤◌, Bool, true, false, cond, List, [], ◌∷◌, refl, arith, ◌⊎◌, inl, inr, eq-eqb, ⊤, count_between, is_closed_at, match_of, is_before}
use Rattle.bidi_laws.proofs.MatchingLemmas.{closings, openings, not_closed, count_between-more, is_before-match, match-is_before}

abbrev pub Member : ℕ → List ℕ → Type 0
Member q [] = ⊥
Member q (x ∷ xs) = (q ≡ x) ⊎ Member q xs

-- what a character leaves of the openings, by whether it closes
abbrev pub read_closed : Bool → List ℕ → List ℕ
read_closed true [] = []
read_closed true (q ∷ stack) = stack
read_closed false stack = stack

-- and the openings with p, if that opens
abbrev pub read_opened : Bool → ℕ → List ℕ → List ℕ
read_opened opening p stack = cond opening (p ∷ stack) stack

module _ (opens closes : ℕ → Bool) where
  -- of p characters that were read, none has closed q, and after q `depth` more open than close
  pub record IsOpenUnder (p depth q : ℕ) : Type 0 where
    pub read : q < p
    pub still : (k : ℕ) → q < k → k < p → is_closed_at opens closes q k ≡ false
    pub count : count_between opens (q + 1) p ≡ count_between closes (q + 1) p + depth

  -- the counts once p is read too
  pub IsOpenUnder-count : (p d q : ℕ) → IsOpenUnder p d q → openings opens closes q p + cond (closes p) 1 0 ≡ closings opens closes q p + d + cond (opens p) 1 0
  IsOpenUnder-count p d q h = grind (arith, count_between-more)

  -- one character on, where the depth goes from d to e
  IsOpenUnder-more : (p d e q : ℕ) → IsOpenUnder p d q → d + cond (opens p) 1 0 ≡ e + cond (closes p) 1 0 → IsOpenUnder (p + 1) e q
  IsOpenUnder-more p d e q h change = record {
    read = omega (arith, h.read);
    still = λ k from to. grind (arith, h.still k, not_closed opens closes q p (omega (arith, IsOpenUnder-count p d q h)));
    count = omega (arith, IsOpenUnder-count p d q h);
  }

  -- where p closes, it closes the innermost one
  pub IsOpenUnder-closed : (p q : ℕ) → IsOpenUnder p 0 q → opens p ≡ false → closes p ≡ true → is_closed_at opens closes q p ≡ true
  IsOpenUnder-closed p q h no_open close =
      eq-eqb (closings opens closes q p) (openings opens closes q p + 1) (omega (arith, rw (no_open, close) at (IsOpenUnder-count p 0 q h)))

  -- innermost first, each has one more above it than the one before
  abbrev pub AreOpen : ℕ → ℕ → List ℕ → Type 0
  AreOpen p depth [] = ⊤
  AreOpen p depth (q ∷ qs) = (opens q ≡ true) × IsOpenUnder p depth q × AreOpen p (depth + 1) qs

  -- one of p characters that were read closed q
  abbrev pub IsClosedBy : ℕ → ℕ → Type 0
  IsClosedBy q p = (k : ℕ) × (q < k) × (k < p) × (is_closed_at opens closes q k ≡ true)

  -- the stack holds what is open once p characters were read, and every other opening was closed
  pub record IsReadStack (p : ℕ) (stack : List ℕ) : Type 0 where
    pub are_open : AreOpen p 0 stack
    pub others : (q : ℕ) → q < p → opens q ≡ true → Member q stack ⊎ IsClosedBy q p

  pub IsReadStack-start : IsReadStack 0 []
  IsReadStack-start = record { are_open = tt; others = λ q before opening. absurd (omega arith) }

  -- one character on, the depth of all that stays goes from d to e
  all_more : (p d e : ℕ) (o c : Bool) (stack : List ℕ) → opens p ≡ o → closes p ≡ c → d + cond o 1 0 ≡ e + cond c 1 0 → AreOpen p d stack → AreOpen (p + 1) e stack
  all_more p d e o c [] f g change h = tt
  all_more p d e o c (q ∷ stack) f g change h =
      (h.0, IsOpenUnder-more p d e q h.1 (rw (f, g) change), all_more p (d + 1) (e + 1) o c stack f g (omega arith) h.2)

  popped : (p q x : ℕ) (stack : List ℕ) → opens p ≡ false → closes p ≡ true → IsOpenUnder p 0 x → Member q (x ∷ stack) → Member q stack ⊎ IsClosedBy q (p + 1)
  popped p q x stack f g under (inl here) = inr (rw here (p, under.read, omega arith, IsOpenUnder-closed p x under f g))
  popped p q x stack f g under (inr there) = inl there

  -- one character more
  pub IsReadStack-more : (p : ℕ) (o c : Bool) (stack : List ℕ) → opens p ≡ o → closes p ≡ c → (o ≡ true → c ≡ false) → IsReadStack p stack → IsReadStack (p + 1) (read_opened o p (read_closed c stack))
  IsReadStack-more p o c stack f g apart h = grind (arith, all_more, popped)

  -- nothing happens: no opening, and no closing or none to close
  pub IsReadStack-stay : (p : ℕ) (stack : List ℕ) → IsReadStack p stack → opens p ≡ false → (closes p ≡ false) ⊎ (stack ≡ []) → IsReadStack (p + 1) stack
  IsReadStack-stay p stack h none (inl stays) = IsReadStack-more p false false stack none stays (λ e. refl) h
  IsReadStack-stay p stack h none (inr empty) = grind arith

  -- once p was read, the stack has exactly the openings whose match, if they have one, comes later
  member_open : (n m p depth q : ℕ) (stack : List ℕ) → p < m → AreOpen m depth stack → Member q stack → is_before p (match_of opens closes n q) ≡ true
  member_open n m p depth q [] order h member = absurd member
  member_open n m p depth q (x ∷ stack) order h member = grind (arith, match-is_before, member_open n m p (depth + 1) q stack order h.2)

  pub IsReadStack-open : (n m p q : ℕ) (stack : List ℕ) → p < m → IsReadStack m stack → Member q stack → is_before p (match_of opens closes n q) ≡ true
  IsReadStack-open n m p q stack order h member = member_open n m p 0 q stack order h.are_open member

  pub IsReadStack-complete : (n m p q : ℕ) (stack : List ℕ) → p < n → m ≤ p + 1 → IsReadStack m stack → opens q ≡ true → q < m → is_before p (match_of opens closes n q) ≡ true → Member q stack
  IsReadStack-complete n m p q stack fits order h opening read before = grind (arith, is_before-match)
