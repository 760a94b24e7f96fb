-- The characters before the unit at hand are read. The isolates for which nothing waits are counted.
use Rattle.bidi_base.proofs.Common.{◌-◌}
use Rattle.bidi_explicit.proofs.RunReading.{IsCountedTo}
use Rattle.bidi_explicit.proofs.prepare.joining.read_run.Given as goal

abbrev pub invariant-loop-at : goal.invariant-loop-at
invariant-loop-at g l =
    IsCountedTo (g.T.TextSource.text l.fn.text) l.classes l.run.start l.end l.kept_end l.s l.fn.waiting l.waiting l.unwaited l.at

abbrev pub decreases-loop-at : goal.decreases-loop-at
decreases-loop-at g l = l.end - l.at
