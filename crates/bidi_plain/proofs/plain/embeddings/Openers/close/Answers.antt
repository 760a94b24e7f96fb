use Rattle.bidi_base.proofs.Common.{arith}
use Rattle.bidi_plain.proofs.OpenersLemmas.{isolates_in-outside, left_open-pdi, left_open-unmatched}
use Rattle.bidi_plain.proofs.plain.embeddings.Openers.close.Goals as goal

pub invariant_of-self : goal.invariant_of-self
invariant_of-self c = grind (arith, isolates_in-outside)

pub returns-then-self-gt0 : goal.returns-then-self-gt0
returns-then-self-gt0 c = grind (arith, left_open-pdi)

pub returns-else-self-gt0 : goal.returns-else-self-gt0
returns-else-self-gt0 c = grind (arith, left_open-unmatched)
