-- Tables with a character and a value in each row.
use Rattle.std.specs.Prelude.{◌≡◌, ℕ, ◌<◌, ◌+◌, Bool, true, ◌&&◌, ◌==◌, nat_le, List, [], ◌∷◌, find, length, slice_index_or, Option, Some, option_map}

-- the value in the first row of a character, if it has a row
abbrev pub row_value : {V : Type 0} → List (ℕ × V) → ℕ → Option V
row_value rows c = option_map (λ r. r.1) (find (λ r. c == r.0) rows)

-- the characters of the rows ascend, and the first is at least n
abbrev pub rows_rise : {V : Type 0} → ℕ → List (ℕ × V) → Bool
rows_rise n [] = true
rows_rise n (r ∷ rs) = nat_le n r.0 && rows_rise (r.0 + 1) rs

-- the row at an index has the value that the table has for the character
abbrev pub IsRowOf : {V : Type 0} → List (ℕ × V) → ℕ → ℕ → Type 0
IsRowOf {V} rows c i = (i < length rows) × ((d : ℕ × V) → row_value rows c ≡ Some (slice_index_or rows i d).1)
