-- The first line or paragraph of a text, character by character.
use Rattle.bidi_base.proofs.Common.{◌≡◌, ℕ, zero, suc, ◌+◌, ◌<◌, ◌≤◌, true, false, List, [], ◌∷◌, ◌++◌, length, get_or, take, drop, refl, sym, ap, subst}
use Rattle.bidi_base.proofs.Common.{get_or_default, ◌∙◌, arith, drop-cons, add-one, onto_first, take_more, drop_all, SplitTest, cut_after}

-- characters put before the first of some lines
abbrev onto_front : List ℕ → List (List ℕ) → List (List ℕ)
onto_front [] lines = lines
onto_front (c ∷ cs) lines = onto_first c (onto_front cs lines)

onto_front-line : (cs line : List ℕ) (lines : List (List ℕ)) → onto_front cs (line ∷ lines) ≡ (cs ++ line) ∷ lines
onto_front-line [] line lines = refl
onto_front-line (c ∷ cs) line lines = ap (onto_first c) (onto_front-line cs line lines)

onto_front-none : (cs : List ℕ) → 0 < length cs → onto_front cs [] ≡ cs ∷ []
onto_front-none [] some = absurd (omega arith)
onto_front-none (c ∷ []) some = refl
onto_front-none (c ∷ d ∷ cs) some = ap (onto_first c) (onto_front-none (d ∷ cs) (omega arith))

onto_front-more : (cs : List ℕ) (c : ℕ) (lines : List (List ℕ)) → onto_front cs (onto_first c lines) ≡ onto_front (cs ++ c ∷ []) lines
onto_front-more [] c lines = refl
onto_front-more (d ∷ cs) c lines = ap (onto_first d) (onto_front-more cs c lines)

-- none of the first n characters of a text ends a line
pub record IsUnbroken (ends : SplitTest) (chars : List ℕ) (n : ℕ) : Type 0 where
  pub whole : cut_after ends chars ≡ onto_front (take n chars) (cut_after ends (drop n chars))

module _ (ends : SplitTest) (chars : List ℕ) (n c : ℕ) (fits : n < length chars) (here : c ≡ get_or chars n c) where
  from_here : drop n chars ≡ c ∷ drop (n + 1) chars
  from_here = grind (arith, add-one, drop-cons chars n c)

  with_it : take (n + 1) chars ≡ take n chars ++ c ∷ []
  with_it = take_more chars n c fits ∙ ap (λ x. take n chars ++ x ∷ []) (sym here)

  pub IsUnbroken-more : ends c (drop (n + 1) chars) ≡ false → IsUnbroken ends chars n → IsUnbroken ends chars (n + 1)
  IsUnbroken-more goes h = grind (arith, from_here, onto_front-more, with_it)

  -- the next one ends it
  pub IsUnbroken-ended : ends c (drop (n + 1) chars) ≡ true → IsUnbroken ends chars n → cut_after ends chars ≡ take (n + 1) chars ∷ cut_after ends (drop (n + 1) chars)
  IsUnbroken-ended stops h = grind (arith, from_here, onto_front-line, with_it)

-- nor do the next k, which end no line whatever follows them
pub IsUnbroken-plain : (ends : SplitTest) (chars : List ℕ) (n k : ℕ) → n + k ≤ length chars → ((i : ℕ) → n ≤ i → i < n + k → (after : List ℕ) → ends (get_or chars i 0) after ≡ false)
    → IsUnbroken ends chars n → IsUnbroken ends chars (n + k)
IsUnbroken-plain ends chars n zero fits plain h = subst (IsUnbroken ends chars) (omega arith) h
IsUnbroken-plain ends chars n (suc k) fits plain h =
    let before = IsUnbroken-plain ends chars n k (omega (arith, fits)) (λ i low high. plain i low (omega (arith, high))) h in
    subst (IsUnbroken ends chars) (omega arith)
    (IsUnbroken-more ends chars (n + k) (get_or chars (n + k) 0) (omega (arith, fits)) (get_or_default chars (n + k) 0 (get_or chars (n + k) 0) (omega (arith, fits)))
    (plain (n + k) (omega arith) (omega arith) (drop (n + k + 1) chars)) before)

-- the text's end does
pub IsUnbroken-whole : (ends : SplitTest) (chars : List ℕ) (n : ℕ) → n ≡ length chars → 0 < n → IsUnbroken ends chars n → cut_after ends chars ≡ take n chars ∷ cut_after ends (drop n chars)
IsUnbroken-whole ends chars n all some h = grind (arith, drop_all, onto_front-none)
