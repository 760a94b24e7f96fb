-- How names and other arguments are written in a report.
use Rattle.std.specs.Prelude.{ℕ, ◌/◌, ◌%◌, Bool, nat_le, ◌==◌, ◌&&◌, ◌||◌, if◌then◌else◌, List, [], ◌∷◌, ◌++◌, flat_map, codes, encode_utf8}
use Rattle.bidi_terminal.specs.Numbers.{hex_digit}

-- a character from one code point to another
abbrev pub is_between : ℕ → ℕ → ℕ → Bool
is_between first last c = nat_le first c && nat_le c last

-- a character that could end a line, control a terminal or change the order of a line: the controls, both separators
-- U+2028 and U+2029, and every direction control and mark
abbrev pub is_hidden : ℕ → Bool
is_hidden c =
    is_between 0 0x1F c || is_between 0x7F 0x9F c || c == 0x61C || is_between 0x200E 0x200F c || is_between 0x2028 0x202E c
    || is_between 0x2066 0x2069 c

-- four hexadecimal digits
unfoldable pub four_hex_digits : ℕ → List ℕ
four_hex_digits c = hex_digit (c / 0x1000 % 16) ++ (hex_digit (c / 0x100 % 16) ++ (hex_digit (c / 0x10 % 16) ++ hex_digit (c % 16)))

-- a character by its code point
abbrev pub code_escape : ℕ → List ℕ
code_escape c = codes "\\u{" ++ (four_hex_digits c ++ codes "}")

-- a byte by its number
abbrev pub byte_escape : ℕ → List ℕ
byte_escape byte = codes "\\x" ++ (hex_digit (byte / 16) ++ hex_digit (byte % 16))

-- a character of a name
abbrev pub shown_char : ℕ → List ℕ
shown_char c =
    if c == 92 then codes "\\\\"
    else if is_hidden c then code_escape c
    else encode_utf8 c

-- a name, from its characters
abbrev pub shown_name : List ℕ → List ℕ
shown_name chars = flat_map shown_char chars

-- a byte of a name that is not UTF-8
abbrev pub shown_byte : ℕ → List ℕ
shown_byte byte =
    if byte == 92 then codes "\\\\"
    else if is_between 0x20 0x7E byte then byte ∷ []
    else byte_escape byte

-- a name that is not UTF-8, from its bytes
abbrev pub shown_bytes : List ℕ → List ℕ
shown_bytes bytes = flat_map shown_byte bytes
