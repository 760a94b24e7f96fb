use Rattle.std.proofs.Common.{◌≡◌, ◌++◌, drop}
use Rattle.bidi_reports.specs.Allowed.{unused_at}
use Rattle.bidi_reports.proofs.allowed.unused_of.Given as goal

abbrev pub invariant-loop-index : goal.invariant-loop-index
invariant-loop-index l = unused_at l.used l.entries 0 ≡ l.numbers.items ++ unused_at l.used (drop l.index l.entries) l.index
