use Rattle.bidi_base.proofs.Common.{arith, length, ◌+◌, take_rest}
use Rattle.bidi_arguments.specs.LineNames.{is_colon_before}
use Rattle.bidi_reports.specs.LineNumbers.{is_line_number}
use Rattle.bidi_reports.proofs.DigitLemmas.{found, not_found}
use Rattle.bidi_arguments.proofs.line_name.column_colon.Goals as goal

pub returns-then-is_line_number-clause-colon : goal.returns-then-is_line_number-clause-colon
returns-then-is_line_number-clause-colon c =
    found (is_colon_before is_line_number c.args.text.now) (length c.args.text.now) c.loop-index.index (omega arith)
    (grind (arith, take_rest c.args.text.now (c.loop-index.index + 1))) c.loop-index.invariant

pub returns-clause-colon : goal.returns-clause-colon
returns-clause-colon c = not_found (is_colon_before is_line_number c.args.text.now) (length c.args.text.now) (λ k below. c.loop-index.invariant k (omega arith))
