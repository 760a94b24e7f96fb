-- One entry after another.
use Rattle.bidi_base.proofs.Common.{◌≡◌, List, [], ◌∷◌, length, set, replicate, refl, arith}
use Rattle.bidi_calls.proofs.characters.fill.Goals as goal

one : {N : Type 0} (xs : List N) (n : N) → length xs ≡ 1 → set xs 0 n ≡ replicate 1 n
one [] n long = absurd (omega arith)
one (x ∷ []) n long = refl
one (x ∷ y ∷ xs) n long = absurd (omega arith)

two : {N : Type 0} (xs : List N) (n : N) → length xs ≡ 2 → set (set xs 0 n) 1 n ≡ replicate 2 n
two [] n long = absurd (omega arith)
two (x ∷ []) n long = absurd (omega arith)
two (x ∷ y ∷ []) n long = refl
two (x ∷ y ∷ z ∷ xs) n long = absurd (omega arith)

three : {N : Type 0} (xs : List N) (n : N) → length xs ≡ 3 → set (set (set xs 0 n) 1 n) 2 n ≡ replicate 3 n
three [] n long = absurd (omega arith)
three (x ∷ []) n long = absurd (omega arith)
three (x ∷ y ∷ []) n long = absurd (omega arith)
three (x ∷ y ∷ z ∷ []) n long = refl
three (x ∷ y ∷ z ∷ w ∷ xs) n long = absurd (omega arith)

pub returns-in-1 : goal.returns-in-1
returns-in-1 g c = grind (arith, one)

pub returns-in-2 : goal.returns-in-2
returns-in-2 g c = grind (arith, two)

pub returns-in-3 : goal.returns-in-3
returns-in-3 g c = grind (arith, three)
