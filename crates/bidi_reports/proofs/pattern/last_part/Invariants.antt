use Rattle.std.proofs.Common.{◌≡◌, if◌then◌else◌, length}
use Rattle.bidi_reports.specs.Patterns.{has_separator, last_part}
use Rattle.bidi_reports.proofs.pattern.last_part.Given as goal

abbrev pub invariant-loop-rest : goal.invariant-loop-rest
invariant-loop-rest l = last_part l.fn.path ≡ (if has_separator l.rest then last_part l.rest else l.last)

abbrev pub decreases-loop-rest : goal.decreases-loop-rest
decreases-loop-rest l = length l.rest
