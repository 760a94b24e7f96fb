use Rattle.bidi_base.proofs.Common.{length, ◌-◌}
use Rattle.bidi_plain.proofs.Terminators.{IsAtBlock}
use Rattle.bidi_plain.proofs.plain.weak_types.apply_w5.Given as goal

abbrev pub invariant-loop-start : goal.invariant-loop-start
invariant-loop-start l = IsAtBlock l.fn.classes l.classes l.after_number l.start

abbrev pub decreases-loop-start : goal.decreases-loop-start
decreases-loop-start l = length l.initial.classes - l.start
