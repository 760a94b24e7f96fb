use Rattle.bidi_base.proofs.Common.{map, run_of}
use Rattle.unicode_bidi.proofs.LogicalRuns.{FoundUpTo}
use Rattle.unicode_bidi.proofs.logical_runs.level_runs_of.Given as goal

-- the runs that have ended, and the one that begins at `begun` and goes on
abbrev pub invariant-loop-at : goal.invariant-loop-at
invariant-loop-at l = FoundUpTo l.start l.levels l.begun l.at (map run_of l.runs.items)
