use Rattle.bidi_base.proofs.Common.{not, is_nsm, w1_rule}
use Rattle.bidi_plain.proofs.Scans.{IsScanned}
use Rattle.bidi_plain.proofs.plain.weak_types.apply_w1.Given as goal

abbrev pub invariant-loop-class : goal.invariant-loop-class
invariant-loop-class l =
    IsScanned (w1_rule l.fn.sos) (λ c. not (is_nsm c)) l.fn.sos l.fn.classes l.classes l.previous l.class-index
