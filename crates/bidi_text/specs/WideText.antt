-- A text for the tests: numbers as characters, each four code units long.
use Rattle.std.specs.Prelude.{ℕ, ◌≤◌, if◌then◌else◌}
use Rattle.std.proofs.Common.{arith}
use lib.Utf8.{scalar}
use Rattle.bidi_base.specs.Texts.{Encoding}

abbrev pub four_units : ℕ → ℕ
four_units c = 4

pub four_units-positive : (c : ℕ) → 1 ≤ four_units c
four_units-positive c = omega arith

-- each character is four code units
abbrev pub four_each : Encoding
four_each = record { len_of = four_units; positive = four_units-positive }

-- the character of a number, or U+FFFD
abbrev pub char_of_number : ℕ → ℕ
char_of_number n = if scalar n then n else 0xFFFD
