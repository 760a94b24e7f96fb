-- What is read of an entry.
use Rattle.std.proofs.Common.{◌≡◌, ℕ, ◌≤◌, List, [], ◌∷◌, length, map, None, refl, arith}
use Rattle.bidi_reports.specs.Entries.{entry_of_fields}
use denote.Bor.{Bor}

-- no entry has more than three fields
pub too_many-fields : (number : ℕ) (fields : List (Bor (List ℕ))) → 4 ≤ length fields → None ≡ entry_of_fields number (map (λ field. field.now) fields)
too_many-fields number [] many = absurd (omega arith)
too_many-fields number (a ∷ []) many = absurd (omega arith)
too_many-fields number (a ∷ b ∷ []) many = absurd (omega arith)
too_many-fields number (a ∷ b ∷ c ∷ []) many = absurd (omega arith)
too_many-fields number (a ∷ b ∷ c ∷ d ∷ fields) many = refl
