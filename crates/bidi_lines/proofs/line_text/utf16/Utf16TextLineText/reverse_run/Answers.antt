use Rattle.bidi_base.proofs.Common.{◌≡◌, ℕ, ◌+◌, ◌<◌, ◌^◌, true, List, length, get_or, reverse, flat_map, arith, list_all, subrange, IsLine, utf16_text, utf16_len, encode_utf16, is_character}
use Rattle.bidi_base.proofs.UnitIndexLemmas.{text_len-subrange}
use Rattle.bidi_text.proofs.Utf16Lemmas.{has_units, text_len-utf16}
use Rattle.bidi_lines.proofs.Utf16Backwards.{utf16_text-characters, backwards-characters}
use Rattle.bidi_lines.proofs.line_text.utf16.Utf16TextLineText.reverse_run.Goals as goal

-- the run has as many units as the range
as_long : (text units : List ℕ) (start end : ℕ) → IsLine utf16_len (utf16_text text) start end → utf16_text units ≡ subrange utf16_len (utf16_text text) start end → length units + start ≡ end
as_long text units start end line e = grind (arith, text_len-utf16 units, text_len-subrange utf16_len has_units (utf16_text text) start end line)

-- units of which each is a character
backwards : (units out : List ℕ) → ((k : ℕ) → get_or units k 0 < 2 ^ 16) → list_all is_character units ≡ true → out ≡ reverse units → out ≡ flat_map encode_utf16 (reverse (utf16_text units))
backwards units out fits all e = grind (arith, utf16_text-characters units fits all, backwards-characters units fits)

pub write_reversed-requires : goal.write_reversed-requires
write_reversed-requires c = grind (arith, as_long)

pub write_chars_reversed-requires : goal.write_chars_reversed-requires
write_chars_reversed-requires c = grind (arith, as_long)

pub returns-then-are_characters : goal.returns-then-are_characters
returns-then-are_characters c = grind (arith, backwards)
