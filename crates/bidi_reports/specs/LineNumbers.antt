-- Numbers of lines, as they are written in names.
use Rattle.std.specs.Prelude.{ℕ, ◌==◌, Bool, not, nat_le, ◌&&◌, if◌then◌else◌, List, length, slice_index, Option, Some, None}
use Rattle.std.specs.Char.{is_ascii_digit}
use Rattle.std.specs.List.{list_all}
use Rattle.std.specs.Str.Parse.{digits_value}

-- one digit at least, and nothing else
abbrev pub is_digits : List ℕ → Bool
is_digits text = not (length text == 0) && list_all is_ascii_digit text

-- the number of a line, counted from 1: one to nine digits, of which the first is not 0
abbrev pub is_line_number : List ℕ → Bool
is_line_number text = not (length text == 0) && nat_le (length text) 9 && not (slice_index text 0 == 48) && list_all is_ascii_digit text

-- the number that a text is
abbrev pub line_number : List ℕ → Option ℕ
line_number text = if is_line_number text then Some (digits_value 10 text) else None
