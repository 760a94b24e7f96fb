-- The classes and brackets of characters, as numbers.
use Rattle.std.specs.Prelude.{ℕ, ◌+◌, ◌^◌, if◌then◌else◌, List, map, Option, Some, None, Result, Ok, Err}
use Rattle.bidi_base.specs.Classes.{class_number}
use Rattle.bidi_base.specs.declared.data_source.BidiMatchedOpeningBracket.{BidiMatchedOpeningBracket}
use Rattle.bidi_base.specs.Source.{Source}
use Rattle.bidi_base.specs.Text.{per_unit}
use Rattle.bidi_numbers.specs.declared.fault.Fault.{Fault}
use Rattle.bidi_numbers.specs.declared.fault.Fault.TheVariants.{NotScalar}
use Rattle.bidi_numbers.specs.Numbers.{class_numbered}
use Rattle.bidi_numbers.specs.Texts.{is_scalar}

-- the number of a bracket: 0 for none, else the opening bracket of its pair in normal form (BD16), and 2 ^ 31 more for
-- an opening bracket
abbrev pub bracket_number : Option BidiMatchedOpeningBracket → ℕ
bracket_number None = 0
bracket_number (Some bracket) = if bracket.is_open then bracket.opening + 2 ^ 31 else bracket.opening

-- the numbers of a character's class and of its bracket
abbrev pub class_number_in : Source → ℕ → ℕ
class_number_in source c = class_number (source.class_of c)

abbrev pub bracket_number_in : Source → ℕ → ℕ
bracket_number_in source c = bracket_number (source.bracket_of c)

-- the number, or the fault of a number that is not a scalar value
abbrev pub if_scalar : ℕ → ℕ → Result ℕ Fault
if_scalar c number = if is_scalar c then Ok number else Err NotScalar

-- the number of each character, on each of its code units
abbrev pub numbers_of : {N : Type 0} → (ℕ → N) → (ℕ → ℕ) → List ℕ → List N
numbers_of number len_of chars = per_unit len_of chars (map number chars)

-- a source in which the number of each class is a character of that class
abbrev pub numbered_source : Source
numbered_source = record { class_of = class_numbered; bracket_of = λ _. None }
