-- The brackets of a sequence, gathered one character after the other.
use Rattle.bidi_base.proofs.Common.{◌≡◌, ℕ, ◌+◌, ◌<◌, List, [], ◌∷◌, ◌++◌, length, get_or, take, Option, Some, None, ap, arith}
use Rattle.bidi_base.proofs.Common.{common_steps, counted_bracket, counted_brackets, brackets_from, found_brackets}
use Rattle.bidi_base.specs.declared.char_data.BidiClass.{BidiClass}
use Rattle.bidi_base.specs.declared.data_source.BidiMatchedOpeningBracket.{BidiMatchedOpeningBracket}
use Rattle.bidi_base.proofs.PairsLemmas.{length-counted_brackets}

counted_brackets-push : (classes : List BidiClass) (brackets : List (Option BidiMatchedOpeningBracket)) (c : BidiClass) (b : Option BidiMatchedOpeningBracket) → length brackets ≡ length classes
    → counted_brackets (classes ++ c ∷ []) (brackets ++ b ∷ []) ≡ counted_brackets classes brackets ++ counted_bracket c b ∷ []
counted_brackets-push [] [] c b h = λ i. counted_bracket c b ∷ []
counted_brackets-push (x ∷ classes) (y ∷ brackets) c b h = simp (counted_brackets-push classes brackets c b (omega arith))
counted_brackets-push _ _ c b h = absurd (omega arith)

brackets_from-push : (k : ℕ) (brackets : List (Option BidiMatchedOpeningBracket)) (b : Option BidiMatchedOpeningBracket) → brackets_from k (brackets ++ b ∷ []) ≡ brackets_from k brackets ++
    brackets_from (k + length brackets) (b ∷ [])
brackets_from-push k [] b = ap (λ (n : ℕ). brackets_from n (b ∷ [])) (let same : k ≡ k + 0 = omega arith in same)
brackets_from-push k (None ∷ brackets) b = grind (arith, brackets_from-push (k + 1) brackets b)
brackets_from-push k (Some x ∷ brackets) b = grind (arith, brackets_from-push (k + 1) brackets b)

-- one more character, with its bracket after the others if it counts
pub found_brackets-push : (classes : List BidiClass) (brackets : List (Option BidiMatchedOpeningBracket)) (c : BidiClass) (b : Option BidiMatchedOpeningBracket) → length brackets ≡ length classes
    → found_brackets (classes ++ c ∷ []) (brackets ++ b ∷ []) ≡ found_brackets classes brackets ++ brackets_from (length classes) (counted_bracket c b ∷ [])
unfolding found_brackets
found_brackets-push classes brackets c b h = grind (arith, counted_brackets-push, brackets_from-push, length-counted_brackets)

-- the same of the first characters
pub found_brackets-more : (classes : List BidiClass) (brackets : List (Option BidiMatchedOpeningBracket)) (i : ℕ) (d : BidiClass) → length brackets ≡ length classes → i < length classes
    → found_brackets (take (i + 1) classes) (take (i + 1) brackets) ≡ found_brackets (take i classes) (take i brackets) ++ brackets_from i (counted_bracket (get_or classes i d)
    (get_or brackets i None) ∷ [])
found_brackets-more classes brackets i d h inside = grind (arith, common_steps, found_brackets-push)
