use Rattle.bidi_base.proofs.Common.{arith}
use Rattle.bidi_explain.specs.Stages.{weak_in}
use Rattle.bidi_laws.proofs.ResolvedLemmas.{length-weak_classes}
use Rattle.bidi_laws.proofs.StoredLemmas.{length-at_indexes}
use Rattle.bidi_explain.proofs.stages.weak_of.Goals as goal

pub returns : goal.returns
unfolding weak_in
returns c = grind (arith, length-weak_classes, length-at_indexes)
