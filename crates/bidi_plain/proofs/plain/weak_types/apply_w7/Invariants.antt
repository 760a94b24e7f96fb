use Rattle.bidi_base.proofs.Common.{is_l_or_r, w7_rule}
use Rattle.bidi_plain.proofs.Scans.{IsScanned}
use Rattle.bidi_plain.proofs.plain.weak_types.apply_w7.Given as goal

abbrev pub invariant-loop-class : goal.invariant-loop-class
invariant-loop-class l = IsScanned (w7_rule l.fn.sos) is_l_or_r l.fn.sos l.fn.classes l.classes l.strong l.class-index
