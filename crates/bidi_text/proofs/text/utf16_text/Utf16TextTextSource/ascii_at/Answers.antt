use Rattle.bidi_base.proofs.Common.{arith, lt-ltb, le-ltb}
use Rattle.bidi_text.proofs.Utf16Lemmas.{ascii_at-unit, ascii_at-past}
use Rattle.bidi_text.proofs.text.utf16_text.Utf16TextTextSource.ascii_at.Goals as goal

pub returns-in_err-unit : goal.returns-in_err-unit
returns-in_err-unit c = grind (arith, ascii_at-past)

pub returns-then-unit-lt128 : goal.returns-then-unit-lt128
returns-then-unit-lt128 c = grind (arith, ascii_at-unit, lt-ltb)

pub returns-else-unit-lt128 : goal.returns-else-unit-lt128
returns-else-unit-lt128 c = grind (arith, ascii_at-unit, le-ltb)
