-- Strings of JSON.
use Rattle.std.specs.Prelude.{ℕ, if◌then◌else◌, List, ◌++◌, flat_map, codes, encode_utf8}
use Rattle.std.specs.Str.{chars}
use Rattle.json.specs.Print.{quoted}
use Rattle.bidi_terminal.specs.Names.{is_hidden, four_hex_digits}

-- a character of a string of JSON; a hidden one is written by its code point, which JSON reads as the character
abbrev pub json_char : ℕ → List ℕ
json_char c = if is_hidden c then codes "\\u" ++ four_hex_digits c else encode_utf8 c

-- a text as a string of JSON, with its quotes: with JSON's own escapes, and without hidden characters
unfoldable pub json_string : List ℕ → List ℕ
json_string text = flat_map json_char (chars (quoted text))
