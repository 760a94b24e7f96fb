use Rattle.std.proofs.Common.{◌≡◌, ◌++◌, option_map, length}
use Rattle.bidi_reports.specs.Globs.{parts_of}
use Rattle.bidi_reports.proofs.glob.parts_of.Given as goal

abbrev pub invariant-loop-rest : goal.invariant-loop-rest
invariant-loop-rest l = parts_of l.fn.text ≡ option_map (λ more. l.parts.items ++ more) (parts_of l.rest)

abbrev pub decreases-loop-rest : goal.decreases-loop-rest
decreases-loop-rest l = length l.rest
