-- The units of the run that came are marked.
use Rattle.bidi_base.proofs.Common.{◌≡◌, ℕ, ◌+◌, ◌-◌, ◌<◌, ◌≤◌, true, List, in_runs, carried}
use Rattle.bidi_base.specs.declared.char_data.BidiClass.{BidiClass}
use Rattle.bidi_rules.specs.WeakWalk.{AreMarked}
use Rattle.bidi_rules.proofs.weak.w1.resolve_each_mark.Given as goal

abbrev pub invariant-loop-unit : goal.invariant-loop-unit
invariant-loop-unit g l =
    ((runs : List (ℕ × ℕ)) (sos : BidiClass) (old : List BidiClass) → ((k : ℕ) → l.start ≤ k → k < l.fn.end → in_runs runs k ≡ true)
    → AreMarked runs sos old l.fn.classes (carried l.fn.before) l.start → AreMarked runs sos old l.classes (carried l.last) l.unit)
    × (l.steps ≡ l.fn.steps + (l.unit - l.start))
