-- Mirrored partners as numbers.
use Rattle.std.specs.Prelude.{ℕ, if◌then◌else◌, unwrap_or, Result, Ok, Err}
use Rattle.bidi_numbers.specs.declared.fault.Fault.{Fault}
use Rattle.bidi_numbers.specs.declared.fault.Fault.TheVariants.{NotScalar}
use Rattle.bidi_numbers.specs.Texts.{is_scalar}
use Rattle.bidi_unicode.specs.Unicode.{mirrored_of}

-- the mirrored partner of a character, or the character itself if it has none, or the fault of a number that is not a
-- scalar value
abbrev pub partner_or_self : ℕ → Result ℕ Fault
partner_or_self c = if is_scalar c then Ok (unwrap_or (mirrored_of c) c) else Err NotScalar
