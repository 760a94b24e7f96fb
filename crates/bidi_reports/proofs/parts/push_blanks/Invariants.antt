use Rattle.bidi_base.proofs.Common.{◌≡◌, ◌++◌, replicate, string_bytes}
use Rattle.bidi_reports.proofs.parts.push_blanks.Given as goal

abbrev pub invariant-loop-step : goal.invariant-loop-step
invariant-loop-step l = string_bytes l.out ≡ string_bytes l.fn.out ++ replicate l.step 32
