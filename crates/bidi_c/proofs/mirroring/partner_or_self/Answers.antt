use Rattle.std.proofs.Common.{◌≡◌, ◌∙◌, ℕ, Bool, true, false, Ok, Err, None, refl, sym, ap}
use Rattle.std.specs.Prelude.{if◌then◌else◌, unwrap_or}
use Rattle.bidi_numbers.specs.declared.fault.Fault.{Fault}
use Rattle.bidi_numbers.specs.declared.fault.Fault.TheVariants.{NotScalar}
use Rattle.bidi_numbers.specs.Faults.{fault_unless}
use Rattle.bidi_numbers.specs.Texts.{is_scalar}
use Rattle.bidi_unicode.specs.Unicode.{mirrored_of}
use Rattle.bidi_c.proofs.mirroring.partner_or_self.Goals as goal

holds : (b : Bool) (fault : Fault) → None ≡ fault_unless b fault → b ≡ true
holds true fault none = refl
holds false fault none = cc none

-- here the table of partners is no part of the goal
of_scalar : (good : Bool) (n m : ℕ) → good ≡ true → n ≡ m → Ok n ≡ (if good then Ok m else Err NotScalar)
of_scalar good n m is same = rw (is, same) refl

pub returns : goal.returns
returns c =
    let character = c.args.character in
    let good : is_scalar character ≡ true = sym c.is_scalar.ensures ∙ holds c.is_scalar.result NotScalar c.in_ok-check.ensures in
    of_scalar (is_scalar character) c.unwrap_or.result (unwrap_or (mirrored_of character) character) good
    (c.unwrap_or.ensures
    ∙ ap (λ partner. unwrap_or partner c.char_of-c.result) c.mirrored.ensures.partner
    ∙ ap (λ d. unwrap_or (mirrored_of d) d) c.char_of-c.ensures)
