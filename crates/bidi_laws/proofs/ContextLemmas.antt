-- A test that each answer of a rule passes.
use Rattle.bidi_base.proofs.Common.{◌≡◌, ℕ, ◌<◌, Bool, true, List, [], ◌∷◌, map, length, get_or, refl, arith, list_all, and_parts, and_from, in_context}
use Rattle.bidi_base.specs.declared.char_data.BidiClass.{BidiClass}

pub list_all-in_context : (rule : List BidiClass → BidiClass → List BidiClass → BidiClass) (p q : BidiClass → Bool)
    → ((before : List BidiClass) (c : BidiClass) (after : List BidiClass) → list_all p before ≡ true → p c ≡ true → q (rule before c after) ≡ true)
    → (before xs : List BidiClass) → list_all p before ≡ true → list_all p xs ≡ true → list_all q (in_context rule before xs) ≡ true
list_all-in_context rule p q answers before [] h k = refl
list_all-in_context rule p q answers before (x ∷ xs) h k = grind (arith, and_parts, and_from, list_all-in_context rule p q answers (x ∷ before) xs)

pub list_all-mapped : (f : BidiClass → BidiClass) (p q : BidiClass → Bool) → ((c : BidiClass) → p c ≡ true → q (f c) ≡ true)
    → (xs : List BidiClass) → list_all p xs ≡ true → list_all q (map f xs) ≡ true
list_all-mapped f p q answers [] h = refl
list_all-mapped f p q answers (x ∷ xs) h = grind (arith, and_parts, and_from, list_all-mapped f p q answers xs)

-- each element passes
pub list_all-get_or : (p : BidiClass → Bool) (xs : List BidiClass) (k : ℕ) (d : BidiClass) → k < length xs → list_all p xs ≡ true → p (get_or xs k d) ≡ true
list_all-get_or p [] k d fits h = absurd (omega arith)
list_all-get_or p (x ∷ xs) k d fits h = grind (arith, and_parts, list_all-get_or p xs)
