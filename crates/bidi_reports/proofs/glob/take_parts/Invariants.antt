use Rattle.std.proofs.Common.{◌≡◌, ◌++◌, List, length}
use Rattle.bidi_reports.specs.Globs.{Accepts, matches}
use Rattle.bidi_reports.specs.declared.glob.Part.{Part}
use Rattle.bidi_reports.proofs.glob.take_parts.Given as goal

abbrev pub invariant-loop-rest : goal.invariant-loop-rest
invariant-loop-rest l = (done : List Part) × (l.fn.parts ≡ l.rest ++ done) × Accepts (matches done) l.chars l.ends

abbrev pub decreases-loop-rest : goal.decreases-loop-rest
decreases-loop-rest l = length l.rest
