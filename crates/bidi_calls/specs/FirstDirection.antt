-- The base direction of a text that is read only up to the character that decides it.
use Rattle.std.specs.Prelude.{ℕ, Bool, not, ◌&&◌, ◌||◌, ◌==◌, if◌then◌else◌, List, take, take_while, Result, Ok, Err}
use Rattle.std.specs.List.{list_all, list_any}
use Rattle.std.specs.Str.{chars, is_utf8}
use Rattle.std.specs.Str.Lossy.{utf8_valid_len}
use Rattle.bidi_base.specs.Classes.{is_paragraph_separator}
use Rattle.bidi_base.specs.Source.{Source}
use Rattle.bidi_base.specs.declared.char_data.Direction.TheVariants.{Mixed}
use Rattle.bidi_numbers.specs.declared.fault.Fault.{Fault}
use Rattle.bidi_numbers.specs.declared.fault.Fault.TheVariants.{NotUtf8, NotScalar}
use Rattle.bidi_numbers.specs.Numbers.{direction_number, direction_in}
use Rattle.bidi_numbers.specs.Texts.{is_scalar}

-- what follows these characters cannot change their base direction: one of them has decided it, or without `full`
-- a separator among them has ended the first paragraph
abbrev pub is_decided : Source → Bool → List ℕ → Bool
is_decided source full chars =
    not (direction_in source full chars == direction_number Mixed)
    || (not full && list_any (λ c. is_paragraph_separator (source.class_of c)) chars)

-- the direction of a text that begins with these characters: they are the whole text, or a fault follows them, which is
-- returned only if they do not decide
abbrev pub direction_or : Source → Bool → List ℕ → Bool → Fault → Result ℕ Fault
direction_or source full chars whole fault =
    if whole || is_decided source full chars then Ok (direction_in source full chars) else Err fault

-- the characters of bytes up to the first that are not UTF-8
abbrev pub utf8_front : List ℕ → List ℕ
utf8_front text = chars (take (utf8_valid_len text) text)

-- the direction of a text of UTF-8
abbrev pub first_direction_utf8 : Source → Bool → List ℕ → Result ℕ Fault
first_direction_utf8 source full text = direction_or source full (utf8_front text) (is_utf8 text) NotUtf8

-- the direction of a list of characters
abbrev pub first_direction_utf32 : Source → Bool → List ℕ → Result ℕ Fault
first_direction_utf32 source full text =
    direction_or source full (take_while is_scalar text) (list_all is_scalar text) NotScalar
