-- The name of a line of a file, as a report of `check` has it, and the line.
use Rattle.std.specs.Prelude.{ℕ, ◌+◌, ◌-◌, ◌==◌, Bool, is_some, ◌&&◌, if◌then◌else◌, List, [], ◌∷◌, length, slice_index, take, drop, find, Option, Some, None, option_map}
use Rattle.std.specs.List.{range_with_len}
use Rattle.bidi_reports.specs.LineNumbers.{is_line_number, line_number}

-- a colon at this index, before something that passes a test
abbrev pub is_colon_before : (List ℕ → Bool) → List ℕ → ℕ → Bool
is_colon_before test text at = slice_index text at == 58 && test (drop (at + 1) text)

-- the index of the first one
abbrev pub colon_before : (List ℕ → Bool) → List ℕ → Option ℕ
colon_before test text = find (is_colon_before test text) (range_with_len 0 (length text))

-- the colon before COLUMN
abbrev pub column_colon : List ℕ → Option ℕ
column_colon text = colon_before is_line_number text

-- LINE, if the colon before COLUMN is at this index
abbrev pub line_before : List ℕ → Option ℕ → Option ℕ
line_before text None = line_number text
line_before text (Some colon) = line_number (take colon text)

-- LINE of LINE or LINE:COLUMN
abbrev pub line_in : List ℕ → Option ℕ
line_in text = line_before text (column_colon text)

-- FILE and LINE, if the colon after FILE is at this index
abbrev pub named_at : List ℕ → Option ℕ → Option (List ℕ × ℕ)
named_at text None = None
named_at text (Some colon) = option_map (λ line. (take colon text, line)) (line_in (drop (colon + 1) text))

-- the first colon after which LINE or LINE:COLUMN is all
abbrev pub is_line : List ℕ → Bool
is_line text = is_some (line_in text)

abbrev pub file_colon : List ℕ → Option ℕ
file_colon word = colon_before is_line word

-- FILE and LINE of FILE:LINE or FILE:LINE:COLUMN, with the shortest FILE
abbrev pub line_named : List ℕ → Option (List ℕ × ℕ)
line_named word = named_at word (file_colon word)

-- the line of this number, counted from 1
abbrev pub line_numbered : ℕ → List (List ℕ) → Option (List ℕ)
line_numbered number [] = None
line_numbered number (line ∷ lines) = if number == 1 then Some line else line_numbered (number - 1) lines
