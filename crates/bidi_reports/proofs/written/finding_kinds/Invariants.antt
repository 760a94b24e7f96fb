use Rattle.std.proofs.Common.{◌≡◌, [], drop}
use Rattle.bidi_reports.specs.Written.{distinct_kinds}
use Rattle.bidi_reports.proofs.written.finding_kinds.Given as goal

abbrev pub invariant-loop-finding : goal.invariant-loop-finding
invariant-loop-finding l = distinct_kinds [] l.findings ≡ distinct_kinds l.kinds.items (drop l.finding-index l.findings)
