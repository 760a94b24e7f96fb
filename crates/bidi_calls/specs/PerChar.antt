-- Classes and levels that are equal within each character of a text.
use Rattle.std.specs.Prelude.{◌≡◌, ℕ, ◌-◌, ◌<◌, ◌≤◌, ◌==◌, ◌&&◌, ◌||◌, Bool, true, not, List, slice_index}

-- the code unit k has the class and the level of the code unit before it, if it continues a character
abbrev pub AgreesAt : Bool → List ℕ → List ℕ → ℕ → Type 0
AgreesAt goes_on classes levels k =
    goes_on ≡ true
    → (slice_index classes k ≡ slice_index classes (k - 1)) × (slice_index levels k ≡ slice_index levels (k - 1))

-- the same for each code unit from a up to b
abbrev pub AgreeBetween : (ℕ → Bool) → List ℕ → List ℕ → ℕ → ℕ → Type 0
AgreeBetween goes_on classes levels a b = (k : ℕ) → a ≤ k → k < b → AgreesAt (goes_on k) classes levels k

-- the code unit k continues a character, and has another class or level than the code unit before it
abbrev pub differs_at : Bool → List ℕ → List ℕ → ℕ → Bool
differs_at goes_on classes levels k =
    goes_on && (not (slice_index classes k == slice_index classes (k - 1)) || not (slice_index levels k == slice_index levels (k - 1)))
