use Rattle.bidi_base.proofs.Common.{w4_rule}
use Rattle.bidi_laws.proofs.InPlace.{IsRewritten}
use Rattle.bidi_plain.proofs.plain.weak_types.apply_w4.Given as goal

abbrev pub invariant-loop-i : goal.invariant-loop-i
invariant-loop-i l = IsRewritten w4_rule l.fn.classes l.classes l.i
