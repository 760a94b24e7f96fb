-- Code points, as Unicode writes them.
use Rattle.std.specs.Prelude.{ℕ, ◌/◌, ◌%◌, nat_le, if◌then◌else◌, List, [], ◌++◌}
use Rattle.bidi_terminal.specs.Numbers.{hex_digit}

-- the hexadecimal digit of a number at a power of 16, unless the number is below that power
abbrev pub leading_digit : ℕ → ℕ → List ℕ
leading_digit worth code = if nat_le worth code then hex_digit (code / worth % 16) else []

-- a code point in hexadecimal, with at least four digits
unfoldable pub code_point : ℕ → List ℕ
code_point c =
    leading_digit 0x100000 c
    ++ (leading_digit 0x10000 c
    ++ (hex_digit (c / 0x1000 % 16)
    ++ (hex_digit (c / 0x100 % 16) ++ (hex_digit (c / 0x10 % 16) ++ hex_digit (c % 16)))))
