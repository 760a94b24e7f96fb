-- The width of a terminal.
use Rattle.std.specs.Prelude.{ℕ, ◌==◌, if◌then◌else◌, List, Option, Some, None}
use Rattle.bidi_terminal.specs.Numbers.{number_of}

-- a number of columns, or 80 if there is none
abbrev pub columns_or_usual : Option ℕ → ℕ
columns_or_usual None = 80
columns_or_usual (Some columns) = if columns == 0 then 80 else columns

-- the number of columns that a value of COLUMNS names, in one to three digits
abbrev pub columns_of : List ℕ → ℕ
columns_of value = columns_or_usual (number_of value)
