-- Numbers as words write them.
use Rattle.std.specs.Prelude.{ℕ, nat_le, ◌==◌, ◌&&◌, if◌then◌else◌, List, length, codes, Option, Some, None}
use Rattle.std.specs.List.{list_all}
use Rattle.std.specs.Char.{is_ascii_digit}
use Rattle.std.specs.Str.Parse.{digits_value}

-- the number that a word of one to three digits writes
abbrev pub number_of : List ℕ → Option ℕ
number_of word =
    if nat_le 1 (length word) && nat_le (length word) 3 && list_all is_ascii_digit word then Some (digits_value 10 word) else None

-- the hexadecimal digit of a number below 16, and F of any other
abbrev pub hex_digit : ℕ → List ℕ
hex_digit digit =
    if digit == 0 then codes "0"
    else if digit == 1 then codes "1"
    else if digit == 2 then codes "2"
    else if digit == 3 then codes "3"
    else if digit == 4 then codes "4"
    else if digit == 5 then codes "5"
    else if digit == 6 then codes "6"
    else if digit == 7 then codes "7"
    else if digit == 8 then codes "8"
    else if digit == 9 then codes "9"
    else if digit == 10 then codes "A"
    else if digit == 11 then codes "B"
    else if digit == 12 then codes "C"
    else if digit == 13 then codes "D"
    else if digit == 14 then codes "E"
    else codes "F"
