use Rattle.std.proofs.Common.{arith}
use Rattle.bidi_reports.specs.Allowed.{entries_of}
use Rattle.bidi_reports.proofs.allowed.AllowList.parse.Goals as goal

pub returns-clause-entries : goal.returns-clause-entries
unfolding entries_of
returns-clause-entries c = grind arith
