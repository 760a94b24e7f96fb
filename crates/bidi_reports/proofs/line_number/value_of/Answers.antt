use Rattle.bidi_base.proofs.Common.{arith}
use Rattle.bidi_reports.proofs.DigitLemmas.{value-few, value-more}
use Rattle.bidi_reports.proofs.line_number.value_of.Goals as goal

pub overflow_mul-number : goal.overflow_mul-number
overflow_mul-number c = omega (arith, value-few c.args.digits.now c.loop-digit.digit-index c.requires.digits c.requires.short)

pub overflow_add-number : goal.overflow_add-number
overflow_add-number c = omega (arith, value-few c.args.digits.now c.loop-digit.digit-index c.requires.digits c.requires.short)

pub loop-digit-preserved : goal.loop-digit-preserved
loop-digit-preserved c = grind (arith, value-more c.args.digits.now c.loop-digit.digit-index c.requires.digits)
