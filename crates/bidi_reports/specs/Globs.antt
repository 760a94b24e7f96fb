-- Patterns of paths, and the paths that they match.
use Rattle.std.specs.Prelude.{◌≡◌, ℕ, ◌+◌, ◌-◌, ◌*◌, ◌≤◌, Bool, true, false, not, ◌==◌, ◌&&◌, ◌||◌, if◌then◌else◌, List, [], ◌∷◌, length, drop, get_or, slice_index, Option, Some, None, option_map, nat_le, nat_lt, suc, zero}
use Rattle.std.specs.Char.{digit_value}
use Rattle.bidi_reports.specs.declared.glob.Part.{Part}
use Rattle.bidi_reports.specs.declared.glob.Part.TheVariants.{Char, One, InName, Any}

-- ---- what a pattern matches

-- a character that is in the name of one file or directory
abbrev pub is_in_name : ℕ → Bool
is_in_name c = not (c == 47)

-- the characters that a part takes
abbrev pub takes : Part → ℕ → Bool
takes (Char own) c = own == c
takes One c = is_in_name c
takes InName c = is_in_name c
takes Any c = true

-- a part that takes any number of them, and not just one
abbrev pub repeats : Part → Bool
repeats (Char own) = false
repeats One = false
repeats InName = true
repeats Any = true

-- one character that passes the test, and then what `rest` accepts
abbrev pub one_then : (ℕ → Bool) → (List ℕ → Bool) → List ℕ → Bool
one_then test rest [] = false
one_then test rest (c ∷ chars) = test c && rest chars

-- any number of characters that pass the test, and then what `rest` accepts
abbrev pub many_then : (ℕ → Bool) → (List ℕ → Bool) → List ℕ → Bool
many_then test rest [] = rest []
many_then test rest (c ∷ chars) = rest (c ∷ chars) || (test c && many_then test rest chars)

-- what a part takes, and then what `rest` accepts
abbrev pub part_then : Part → (List ℕ → Bool) → List ℕ → Bool
part_then part rest = if repeats part then many_then (takes part) rest else one_then (takes part) rest

abbrev pub is_end : List ℕ → Bool
is_end chars = length chars == 0

-- parts, one after another, match all of a text
unfoldable pub matches : List Part → List ℕ → Bool
matches [] chars = is_end chars
matches (part ∷ parts) chars = part_then part (matches parts) chars

-- a text accepts, from each of its indexes on, what `rest` accepts
pub record Accepts (rest : List ℕ → Bool) (chars : List ℕ) (ends : List Bool) : Type 0 where
  pub same_len : length ends ≡ length chars + 1
  pub each : (k : ℕ) → k ≤ length chars → get_or ends k false ≡ rest (drop k chars)

-- ---- how a pattern is written

-- the value of a hexadecimal digit
abbrev pub hex_value : ℕ → Option ℕ
hex_value digit = if nat_lt (digit_value digit) 16 then Some (digit_value digit) else None

-- the character of a number up to FFFF; the surrogates are none
abbrev pub char_of : ℕ → Option ℕ
char_of code = if nat_le 0xD800 code && nat_le code 0xDFFF then None else Some code

-- the number that two hexadecimal digits write, from their values
abbrev pub byte_of : Option ℕ → Option ℕ → Option ℕ
byte_of None low = None
byte_of (Some high) None = None
byte_of (Some high) (Some low) = Some (high * 16 + low)

abbrev pub byte_value : ℕ → ℕ → Option ℕ
byte_value high low = byte_of (hex_value high) (hex_value low)

-- the character whose number two bytes write
abbrev pub char_of_bytes : Option ℕ → Option ℕ → Option ℕ
char_of_bytes None low = None
char_of_bytes (Some high) None = None
char_of_bytes (Some high) (Some low) = char_of (high * 256 + low)

-- the character whose number four hexadecimal digits write
abbrev pub char_named : ℕ → ℕ → ℕ → ℕ → Option ℕ
char_named a b c d = char_of_bytes (byte_value a b) (byte_value c d)

-- a character that is itself after a backslash
abbrev pub is_special : ℕ → Bool
is_special c = c == 92 || c == 42 || c == 63

-- the part that a text begins with, and how many of its characters write that part
abbrev pub ReadPart : Type 0
ReadPart = Part × ℕ

-- the escape \u{ABCD}
abbrev pub is_code_escape : List ℕ → Bool
is_code_escape text =
    nat_le 8 (length text) && slice_index text 0 == 92 && slice_index text 1 == 117 && slice_index text 2 == 123
    && slice_index text 7 == 125

abbrev pub escaped_code : List ℕ → Option ReadPart
escaped_code text =
    option_map (λ c. (Char c, 8)) (char_named (slice_index text 3) (slice_index text 4) (slice_index text 5) (slice_index text 6))

-- the escapes: a code point, or a character that would mean something else
abbrev pub escaped_part : List ℕ → Option ReadPart
escaped_part text =
    if is_code_escape text then escaped_code text
    else if nat_le 2 (length text) && is_special (slice_index text 1) then Some (Char (slice_index text 1), 2)
    else None

-- * and **
abbrev pub star_part : List ℕ → ReadPart
star_part text = if nat_le 2 (length text) && slice_index text 1 == 42 then (Any, 2) else (InName, 1)

abbrev pub first_part : List ℕ → Option ReadPart
first_part text =
    if length text == 0 then None
    else if slice_index text 0 == 92 then escaped_part text
    else if slice_index text 0 == 42 then Some (star_part text)
    else if slice_index text 0 == 63 then Some (One, 1)
    else Some (Char (slice_index text 0), 1)

-- the parts of a text, after those that `skipped` characters at its start belong to
abbrev pub more_parts : Option ReadPart → (ℕ → Option (List Part)) → Option (List Part)
more_parts None next = None
more_parts (Some (part, len)) next = option_map (λ parts. part ∷ parts) (next (len - 1))

abbrev pub parts_after : ℕ → List ℕ → Option (List Part)
parts_after skipped [] = Some []
parts_after zero (c ∷ text) = more_parts (first_part (c ∷ text)) (λ skipped. parts_after skipped text)
parts_after (suc skipped) (c ∷ text) = parts_after skipped text

-- the parts of a text, if it writes a pattern
unfoldable pub parts_of : List ℕ → Option (List Part)
parts_of text = parts_after 0 text
