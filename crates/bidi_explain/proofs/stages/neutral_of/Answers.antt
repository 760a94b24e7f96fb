use Rattle.bidi_base.proofs.Common.{arith}
use Rattle.bidi_laws.proofs.StoredLemmas.{length-at_indexes}
use Rattle.bidi_explain.specs.Stages.{neutral_in}
use Rattle.bidi_explain.proofs.StagesLemmas.{length-weak_in, weak_in-resolved}
use Rattle.bidi_explain.proofs.stages.neutral_of.Goals as goal

pub neutral-requires : goal.neutral-requires
neutral-requires c = grind (arith, length-at_indexes, length-weak_in, weak_in-resolved)

pub returns : goal.returns
unfolding neutral_in
returns c = grind (arith, length-weak_in)
