-- The characters that the bytes of a file encode.
use Rattle.std.specs.Prelude.{ℕ, ◌+◌, ◌*◌, Bool, true, false, not, ◌==◌, ◌&&◌, ◌||◌, if◌then◌else◌, List, [], ◌∷◌, take, drop, length, slice_index, nat_eq, Option, Some, None, option_map}
use Rattle.std.specs.Option.{option_or}
use Rattle.std.specs.Char.Utf16.{utf16_lossy_chars}
use Rattle.std.specs.List.{list_any}
use Rattle.std.specs.Str.{chars}
use Rattle.std.specs.Str.Lossy.{utf8_lossy, utf8_valid_len}

-- the byte order marks of UTF-16: the low byte of each code unit first, or the high one
abbrev pub has_low_first : List ℕ → Bool
has_low_first bytes = slice_index bytes 0 == 0xFF && slice_index bytes 1 == 0xFE

abbrev pub has_high_first : List ℕ → Bool
has_high_first bytes = slice_index bytes 0 == 0xFE && slice_index bytes 1 == 0xFF

abbrev pub is_utf16 : List ℕ → Bool
is_utf16 bytes = has_low_first bytes || has_high_first bytes

-- a code unit of UTF-16, from its bytes
abbrev pub unit_of : Bool → ℕ → ℕ → ℕ
unit_of high_first first second = if high_first then first * 256 + second else second * 256 + first

-- code units of UTF-16; a byte that is left over is U+FFFD
abbrev pub units_of : Bool → List ℕ → List ℕ
units_of high_first [] = []
units_of high_first (first ∷ []) = 0xFFFD ∷ []
units_of high_first (first ∷ second ∷ bytes) = unit_of high_first first second ∷ units_of high_first bytes

-- the characters of UTF-16; a surrogate without a partner is U+FFFD
abbrev pub utf16_decoded : Bool → List ℕ → List ℕ
utf16_decoded high_first bytes = utf16_lossy_chars (units_of high_first bytes)

-- the characters of UTF-8, where each sequence of bytes that is not UTF-8 is one U+FFFD (as `String::from_utf8_lossy`
-- of Rust divides them)
abbrev pub utf8_decoded : List ℕ → List ℕ
utf8_decoded bytes = chars (utf8_lossy bytes)

-- the characters of a file: those of UTF-16 after a byte order mark, which is not one of them, or those of UTF-8
abbrev pub decoded : List ℕ → List ℕ
decoded bytes =
    if has_low_first bytes then utf16_decoded false (drop 2 bytes)
    else if has_high_first bytes then utf16_decoded true (drop 2 bytes)
    else utf8_decoded bytes

-- where bytes stop being UTF-8
abbrev pub utf8_fault : List ℕ → Option ℕ
utf8_fault bytes = if utf8_valid_len bytes == length bytes then None else Some (utf8_valid_len bytes)

-- the same for bytes that begin at this offset, if no fault came before them
abbrev pub fault_from : Option ℕ → ℕ → List ℕ → Option ℕ
fault_from before offset bytes = option_or before (option_map (λ at. offset + at) (utf8_fault bytes))

-- where a file without a byte order mark of UTF-16 stops being UTF-8
abbrev pub first_invalid : List ℕ → Option ℕ
first_invalid bytes = if is_utf16 bytes then None else utf8_fault bytes

-- the bytes of a file that decide whether it is binary
unfoldable pub prefix_of : List ℕ → List ℕ
prefix_of bytes = take 8000 bytes

-- a binary file: a NUL is among those bytes, and no byte order mark of UTF-16 before it
abbrev pub is_binary : List ℕ → Bool
is_binary bytes = not (is_utf16 bytes) && list_any (λ byte. nat_eq byte 0) (prefix_of bytes)
