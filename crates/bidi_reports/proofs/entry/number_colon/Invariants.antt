use Rattle.bidi_base.proofs.Common.{◌≡◌, ◌<◌, ℕ, false}
use Rattle.bidi_reports.specs.Entries.{is_number_colon}
use Rattle.bidi_reports.proofs.entry.number_colon.Given as goal

abbrev pub invariant-loop-index : goal.invariant-loop-index
invariant-loop-index l = (k : ℕ) → k < l.index → is_number_colon l.text k ≡ false
