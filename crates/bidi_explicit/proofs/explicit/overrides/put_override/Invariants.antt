-- The override is put on the code units so far, and each was a step.
use Rattle.bidi_base.proofs.Common.{◌≡◌, ◌+◌, Some}
use Rattle.bidi_explicit.specs.ExplicitStretches.{IsOverridden}
use Rattle.bidi_explicit.proofs.explicit.overrides.put_override.Given as goal

abbrev pub invariant-loop-unit : goal.invariant-loop-unit
invariant-loop-unit g l =
    IsOverridden (Some l.put) l.from l.unit l.fn.classes l.classes
    × (l.steps + l.from ≡ l.fn.steps + l.unit)
