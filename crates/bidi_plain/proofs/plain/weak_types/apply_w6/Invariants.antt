use Rattle.bidi_base.proofs.Common.{◌≡◌, ◌++◌, map, take, drop, w6_rule}
use Rattle.bidi_plain.proofs.plain.weak_types.apply_w6.Given as goal

abbrev pub invariant-loop-class : goal.invariant-loop-class
invariant-loop-class l = l.classes ≡ map w6_rule (take l.class-index l.fn.classes) ++ drop l.class-index l.fn.classes
