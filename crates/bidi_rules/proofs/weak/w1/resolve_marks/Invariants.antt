-- The units before the run are marked.
use Rattle.bidi_base.proofs.Common.{◌+◌, ◌*◌, ◌≤◌, length, map, take, bounds, units_in_runs, carried}
use Rattle.bidi_rules.specs.WeakWalk.{AreMarked}
use Rattle.bidi_explicit.proofs.InRuns.{start_or}
use Rattle.bidi_rules.proofs.weak.w1.resolve_marks.Given as goal

abbrev pub invariant-loop-run : goal.invariant-loop-run
invariant-loop-run g l =
    let runs = map bounds l.runs in
    AreMarked runs (carried l.fn.sos) l.fn.classes l.classes (carried l.last) (start_or runs l.run-index (length l.fn.classes))
    × (l.fn.steps ≤ l.steps)
    × (l.steps ≤ l.fn.steps + 2 * length (units_in_runs (take l.run-index runs)))
