use Rattle.bidi_base.proofs.Common.{◌≡◌, take, digits_value}
use Rattle.bidi_reports.proofs.line_number.value_of.Given as goal

abbrev pub invariant-loop-digit : goal.invariant-loop-digit
invariant-loop-digit l = l.number ≡ digits_value 10 (take l.digit-index l.digits)
