use Rattle.bidi_base.proofs.Common.{arith, weak_classes}
use Rattle.bidi_laws.proofs.WeakLemmas.{weak_classes-resolved}
use Rattle.bidi_plain.proofs.plain.weak_types.apply_w1_to_w7.Goals as goal

pub returns-clause-resolved : goal.returns-clause-resolved
unfolding weak_classes
returns-clause-resolved c = grind (arith, weak_classes-resolved)
