-- A line of numbers, a number longer.
use Rattle.bidi_base.proofs.Common.{◌≡◌, ℕ, ◌+◌, ◌<◌, List, [], ◌∷◌, ◌++◌, length, take, get_or, map, decimal, refl, append_assoc, arith, common_steps, join_with_byte}

join_with_byte-push : (c : ℕ) (pieces : List (List ℕ)) (piece : List ℕ) → 0 < length pieces → join_with_byte c (pieces ++ piece ∷ []) ≡ join_with_byte c pieces ++ (c ∷ piece)
join_with_byte-push c [] piece some = absurd (omega arith)
join_with_byte-push c (first ∷ []) piece some = refl
join_with_byte-push c (first ∷ second ∷ pieces) piece some = simp (join_with_byte-push c (second ∷ pieces) piece (omega arith), append_assoc)

-- a separator and the next number
pub next_number : (c : ℕ) (numbers : List ℕ) (place : ℕ) → 0 < place → place < length numbers
    → join_with_byte c (map decimal (take place numbers)) ++ (c ∷ decimal (get_or numbers place 0)) ≡ join_with_byte c (map decimal (take (place + 1) numbers))
next_number c numbers place some within = grind (arith, common_steps, join_with_byte-push)
