-- Lists made of pieces: what holds of each pair in them, and their permutations.
use Rattle.bidi_base.proofs.Common.{◌≡◌, ℕ, zero, suc, ◌+◌, ◌-◌, ◌<◌, ◌≤◌, List, [], ◌∷◌, ◌++◌, map, flat_map, reverse, length, get_or, set, AllPairs, refl, arith, append_assoc, suc-add}
use Rattle.bidi_base.proofs.Common.{range_with_len, IsPermutation, common_steps, get_or-map, get_or-reverse, length-reverse, All-append, All-head, All-tail, length-range_with_len}
use Rattle.bidi_base.proofs.Common.{get_or-range_with_len, IsPermutation-refl, IsPermutation-sym, IsPermutation-trans, IsPermutation-append_left, IsPermutation-append_right}
use Rattle.bidi_base.proofs.Common.{IsPermutation-append_comm, between, at_indexes, All}
use Rattle.std.proofs.Common.{swap}
use Rattle.std.proofs.Math.Nat.{zero-add}
use Rattle.std.proofs.lemmas.List.Sorted.{IsPermutation-keeps, IsPermutation-append}

module _ {X : Type 0} (R : X → X → Type 0) where
  pub AllPairs-tail : (x : X) (xs : List X) → AllPairs R (x ∷ xs) → AllPairs R xs
  AllPairs-tail x xs h i j d before fits = h (suc i) (suc j) d (omega arith) (omega arith)

  pub AllPairs-head : (x : X) (xs : List X) → AllPairs R (x ∷ xs) → All (R x) xs
  AllPairs-head x xs h k d fits = h zero (suc k) d (omega arith) (omega arith)

  pub AllPairs-append : (xs ys : List X) → AllPairs R xs → AllPairs R ys → All (λ x. All (R x) ys) xs → AllPairs R (xs ++ ys)
  AllPairs-append xs ys h k across i j d before fits =
      grind (arith, common_steps, h i j d, k (i - length xs) (j - length xs) d, λ (f : i < length xs). across i d f (j - length xs) d)

  pub AllPairs-map : {Y : Type 0} (f : Y → X) (ys : List Y) → AllPairs (λ a b. R (f a) (f b)) ys → AllPairs R (map f ys)
  AllPairs-map f [] h = λ i j d before fits. absurd (omega arith)
  AllPairs-map f (y ∷ ys) h = λ i j d before fits. grind (arith, common_steps, h i j y, get_or-map f (y ∷ ys) i y d, get_or-map f (y ∷ ys) j y d)

  pub AllPairs-reverse : (xs : List X) → AllPairs (λ a b. R b a) xs → AllPairs R (reverse xs)
  AllPairs-reverse xs h i j d before fits = grind (arith, length-reverse, get_or-reverse)

pub All-flat_map : {A X : Type 0} (P : X → Type 0) (f : A → List X) (parts : List A) → All (λ a. All P (f a)) parts → All P (flat_map f parts)
All-flat_map P f [] h = λ k d fits. absurd (omega arith)
All-flat_map P f (a ∷ parts) h = All-append P (f a) (flat_map f parts) (All-head (λ a. All P (f a)) a parts h) (All-flat_map P f parts (All-tail (λ a. All P (f a)) a parts h))

-- pieces in order, one before the other
pub AllPairs-flat_map : {A X : Type 0} (R : X → X → Type 0) (f : A → List X) (parts : List A)
    → All (λ a. AllPairs R (f a)) parts → AllPairs (λ a b. All (λ x. All (R x) (f b)) (f a)) parts → AllPairs R (flat_map f parts)
AllPairs-flat_map R f [] each across = λ i j d before fits. absurd (omega arith)
AllPairs-flat_map R f (a ∷ parts) each across = AllPairs-append R (f a) (flat_map f parts) (each 0 a (omega arith))
    (AllPairs-flat_map R f parts (λ k d fits. each (suc k) d (omega arith)) (λ i j d b fits. across (suc i) (suc j) d (omega arith) (omega arith)))
    (λ k d fits. All-flat_map (R (get_or (f a) k d)) f parts (λ j e inside. across zero (suc j) e (omega arith) (omega arith) k d fits))

-- the numbers from a up to b
pub length-between : (a b : ℕ) → length (between a b) ≡ b - a
length-between a b = length-range_with_len a (b - a)

pub get_or-between : (a b k d : ℕ) → k < b - a → get_or (between a b) k d ≡ a + k
get_or-between a b k d fits = get_or-range_with_len a (b - a) k d fits

pub All-between : (P : ℕ → Type 0) (a b : ℕ) → ((u : ℕ) → a ≤ u → u < b → P u) → All P (between a b)
All-between P a b h k d fits = grind (arith, length-between, get_or-between)

pub AllPairs-between : (R : ℕ → ℕ → Type 0) (a b : ℕ) → ((u w : ℕ) → a ≤ u → u < w → w < b → R u w) → AllPairs R (between a b)
AllPairs-between R a b h i j d before fits = grind (arith, length-between, get_or-between)

range-append : (a m n b : ℕ) → a + m ≡ b → range_with_len a m ++ range_with_len b n ≡ range_with_len a (m + n)
range-append a zero n b e = let same : b ≡ a = omega arith in simp (same, zero-add)
range-append a (suc m) n b e = simp (suc-add m n, range-append (a + 1) m n b (omega arith))

pub between-append : (a b c : ℕ) → a ≤ b → b ≤ c → between a b ++ between b c ≡ between a c
between-append a b c h k = grind (arith, range-append)

-- the elements at places
pub at_indexes-map : {X : Type 0} (d : X) (xs : List X) (ps : List ℕ) → at_indexes d xs ps ≡ map (λ p. get_or xs p d) ps
at_indexes-map d xs [] = refl
at_indexes-map d xs (p ∷ ps) = simp (at_indexes-map d xs ps)

-- ---- permutations

-- a, b and what follows, with b first
two_fronts : {B : Type 0} (a b rest : List B) → IsPermutation (a ++ (b ++ rest)) (b ++ (a ++ rest))
two_fronts a b rest = rw (← append_assoc a b rest, ← append_assoc b a rest) (IsPermutation-append_left rest (a ++ b) (b ++ a) (IsPermutation-append_comm a b))

-- one piece in the place of another
IsPermutation-flat_map-set : {A B : Type 0} (f : A → List B) (xs : List A) (i : ℕ) (x d : A) → i < length xs → IsPermutation (f (get_or xs i d) ++ flat_map f (set xs i x)) (f x ++ flat_map f xs)
IsPermutation-flat_map-set f [] i x d fits = absurd (omega arith)
IsPermutation-flat_map-set f (y ∷ xs) zero x d fits = two_fronts (f y) (f x) (flat_map f xs)
IsPermutation-flat_map-set f (y ∷ xs) (suc i) x d fits =
    IsPermutation-trans _ _ _ (two_fronts (f (get_or xs i d)) (f y) (flat_map f (set xs i x)))
    (IsPermutation-trans _ _ _ (IsPermutation-append_right (f y) _ _ (IsPermutation-flat_map-set f xs i x d (omega arith))) (two_fronts (f y) (f x) (flat_map f xs)))

-- two pieces in each other's place
IsPermutation-flat_map-swap : {A B : Type 0} (f : A → List B) (xs : List A) (i j : ℕ) (d : A) → i < length xs → j < length xs
    → IsPermutation (flat_map f xs) (flat_map f (set (set xs i (get_or xs j d)) j (get_or xs i d)))
IsPermutation-flat_map-swap f [] i j d fits fits' = absurd (omega arith)
IsPermutation-flat_map-swap f (x ∷ xs) zero zero d fits fits' = IsPermutation-refl _
IsPermutation-flat_map-swap f (x ∷ xs) zero (suc j) d fits fits' = IsPermutation-sym _ _ (IsPermutation-flat_map-set f xs j x d (omega arith))
IsPermutation-flat_map-swap f (x ∷ xs) (suc i) zero d fits fits' = IsPermutation-sym _ _ (IsPermutation-flat_map-set f xs i x d (omega arith))
IsPermutation-flat_map-swap f (x ∷ xs) (suc i) (suc j) d fits fits' = IsPermutation-append_right (f x) _ _ (IsPermutation-flat_map-swap f xs i j d (omega arith) (omega arith))

-- pieces in another order
pub IsPermutation-flat_map : {A B : Type 0} (f : A → List B) (xs ys : List A) → IsPermutation xs ys → IsPermutation (flat_map f xs) (flat_map f ys)
IsPermutation-flat_map {A} f xs ys h = IsPermutation-keeps xs (λ l. IsPermutation (flat_map f xs) (flat_map f l)) (IsPermutation-refl (flat_map f xs)) step ys h
  where
    step : (l : List A) (i j : ℕ) → i < length l → j < length l → IsPermutation (flat_map f xs) (flat_map f l) → IsPermutation (flat_map f xs) (flat_map f (swap l i j))
    step [] i j fits fits' k = k
    step (d ∷ l) i j fits fits' k = IsPermutation-trans _ _ _ k (IsPermutation-flat_map-swap f (d ∷ l) i j d fits fits')

-- and each piece in another order
pub IsPermutation-flat_map_each : {A B : Type 0} (f g : A → List B) → ((x : A) → IsPermutation (f x) (g x)) → (xs : List A) → IsPermutation (flat_map f xs) (flat_map g xs)
IsPermutation-flat_map_each f g each [] = IsPermutation-refl []
IsPermutation-flat_map_each f g each (x ∷ xs) = IsPermutation-append (f x) (g x) (flat_map f xs) (flat_map g xs) (each x) (IsPermutation-flat_map_each f g each xs)
