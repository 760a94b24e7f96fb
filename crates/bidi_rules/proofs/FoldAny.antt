-- A fold that looks at every element is the test whether one of them passes.
use Rattle.bidi_base.proofs.Common.{◌≡◌, Bool, false, ◌||◌, List, [], ◌∷◌, ◌∙◌, arith, list_any, or_assoc}
use Rattle.std.specs.List.{fold}

or_false : (a : Bool) → a ≡ (a || false)
or_false a = grind arith

fold_or : {X : Type 0} (p : X → Bool) (b : Bool) (xs : List X) → fold (λ (found : Bool) (x : X). found || p x) b xs ≡ (b || list_any p xs)
fold_or p b [] = or_false b
fold_or p b (x ∷ xs) = fold_or p (b || p x) xs ∙ or_assoc b (p x) (list_any p xs)

pub fold_any : {X : Type 0} (p : X → Bool) (xs : List X) → fold (λ (found : Bool) (x : X). found || p x) false xs ≡ list_any p xs
fold_any p xs = fold_or p false xs
