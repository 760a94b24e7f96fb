-- A text as a caller passes it: a list of code units, which need not be a text.
use Rattle.std.specs.Prelude.{◌≡◌, ℕ, Bool, not, List, length, Option, Some, None, Result, Ok, Err}
use Rattle.std.specs.Char.Escape.{encode_utf16}
use Rattle.std.specs.List.{list_all}
use Rattle.std.specs.Str.{is_utf8}
use Rattle.std.proofs.Common.{arith}
use Rattle.std.proofs.lemmas.Bool.Decides.{nat_tests}
use Rattle.bidi_base.specs.Text.{is_boundary}
use Rattle.bidi_base.specs.Texts.{Encoding, Text, text_len}
use Rattle.bidi_base.specs.Utf16.{utf16_text, utf16_len}
use Rattle.bidi_numbers.specs.declared.fault.Fault.{Fault}
use Rattle.bidi_numbers.specs.declared.fault.Fault.TheVariants.{NotUtf8, NotScalar}
use Rattle.bidi_numbers.specs.Faults.{fault_unless}
use Rattle.bidi_numbers.specs.Texts.{is_scalar}

-- the text of these code units: it has these characters and these code units, one after another
pub record IsTextOf {e : Encoding} {X : Type 0} (given : List X) (read : List ℕ) (text : Text e) (own : List X)
    : Type 0 where
  pub chars : text.chars ≡ read
  pub units : own ≡ given
  pub len : text_len text ≡ length given

-- the fault of bytes that are not UTF-8, and of numbers that are not all scalar values
abbrev pub utf8_fault : List ℕ → Option Fault
utf8_fault units = fault_unless (is_utf8 units) NotUtf8

abbrev pub utf32_fault : List ℕ → Option Fault
utf32_fault units = fault_unless (list_all is_scalar units) NotScalar

-- a line of UTF-16 that begins or ends at an index cuts a character
abbrev pub cuts_utf16 : List ℕ → ℕ → Bool
cuts_utf16 units k = not (is_boundary utf16_len (utf16_text units) k)

-- a character of UTF-16 is encoded with as many code units as it has
pub length-encode_utf16 : (c : ℕ) → length (encode_utf16 c) ≡ utf16_len c
length-encode_utf16 c = grind (arith, nat_tests)

-- the result of a call whose only fault is that of its text
abbrev pub unless_fault : Option Fault → ℕ → Result ℕ Fault
unless_fault None n = Ok n
unless_fault (Some fault) n = Err fault
