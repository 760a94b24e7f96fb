use Rattle.bidi_base.proofs.Common.{◌≡◌, ◌<◌, ℕ, false}
use Rattle.bidi_arguments.specs.LineNames.{is_colon_before}
use Rattle.bidi_reports.specs.LineNumbers.{is_line_number}
use Rattle.bidi_arguments.proofs.line_name.column_colon.Given as goal

abbrev pub invariant-loop-index : goal.invariant-loop-index
invariant-loop-index l = (k : ℕ) → k < l.index → is_colon_before is_line_number l.text k ≡ false
