use Rattle.bidi_base.proofs.Common.{is_strong, w2_rule}
use Rattle.bidi_plain.proofs.Scans.{IsScanned}
use Rattle.bidi_plain.proofs.plain.weak_types.apply_w2.Given as goal

abbrev pub invariant-loop-class : goal.invariant-loop-class
invariant-loop-class l = IsScanned (w2_rule l.fn.sos) is_strong l.fn.sos l.fn.classes l.classes l.strong l.class-index
