-- The search for the opening of a closing, over entries that a stack keeps of the openings that wait.
use Rattle.bidi_base.proofs.Common.{◌≡◌, ℕ, ◌-◌, ◌<◌, Bool, eqb, List, map, length, get_or, reverse, Option, Some, option_map, sym, ap, ◌∙◌, arith}
use Rattle.bidi_base.proofs.Common.{length-reverse, get_or-reverse, BidiMatchedOpeningBracket, find_last, bracket_at, is_same_bracket, IsUnderWay}
use Rattle.bidi_base.specs.PairSearch.{opening_of}
use Rattle.bidi_base.proofs.PairsLemmas.{IsUnderWay-entry}
use Rattle.bidi_base.proofs.Lists.{find-map, find-same, map-reverse}

-- the opening character of a bracket
find_last-same : (p q : ℕ → Bool) (xs : List ℕ) → ((k : ℕ) → k < length xs → p (get_or xs k 0) ≡ q (get_or xs k 0)) → find_last p xs ≡ find_last q xs
find_last-same p q xs same = find-same p q (reverse xs) 0 (λ k below.
    let inside : k < length xs = omega (arith, length-reverse xs) in
    let at = get_or-reverse xs k 0 inside in
    ap p at ∙ same (length xs - 1 - k) (omega arith) ∙ ap q (sym at))

-- the search over the entries is one over the openings
pub find_last-entries : {X : Type 0} (brackets : List (Option BidiMatchedOpeningBracket)) (entry : ℕ → X) (q : X → Bool) (j : ℕ) (places : List ℕ) (b : BidiMatchedOpeningBracket)
    → IsUnderWay brackets j places
    → bracket_at brackets j ≡ Some b → ((i : ℕ) → q (entry i) ≡ eqb (opening_of (bracket_at brackets i)) b.opening)
    → find_last q (map entry places) ≡ option_map entry (find_last (λ i. is_same_bracket (bracket_at brackets i) (bracket_at brackets j)) places)
find_last-entries brackets entry q j places b h is tests =
    simp (← map-reverse entry places, find-map, is)
    (ap (option_map entry) (find_last-same (λ i. q (entry i)) (λ i. is_same_bracket (bracket_at brackets i) (Some b)) places
    (λ k below. tests (get_or places k 0) ∙ grind (arith, (IsUnderWay-entry brackets j places k h below).opening))))
