use Rattle.bidi_base.proofs.Common.{arith, length, ◌+◌, take_rest}
use Rattle.bidi_reports.specs.Entries.{is_number_colon}
use Rattle.bidi_reports.proofs.DigitLemmas.{found, not_found}
use Rattle.bidi_reports.proofs.entry.number_colon.Goals as goal

pub returns-then-is_digits-clause-colon : goal.returns-then-is_digits-clause-colon
returns-then-is_digits-clause-colon c =
    found (is_number_colon c.args.text.now) (length c.args.text.now) c.loop-index.index (omega arith)
    (grind (arith, take_rest c.args.text.now (c.loop-index.index + 1))) c.loop-index.invariant

pub returns-clause-colon : goal.returns-clause-colon
returns-clause-colon c = not_found (is_number_colon c.args.text.now) (length c.args.text.now) (λ k below. c.loop-index.invariant k (omega arith))
