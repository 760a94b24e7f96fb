use Rattle.bidi_base.proofs.Common.{arith}
use Rattle.bidi_laws.proofs.NeutralLemmas.{n1_n2-directed, n0-resolved}
use Rattle.bidi_plain.proofs.plain.neutrals.apply_n0_to_n2.Goals as goal

pub apply_n1_n2-requires : goal.apply_n1_n2-requires
apply_n1_n2-requires c = grind (arith, n0-resolved)

pub returns-clause-directed : goal.returns-clause-directed
returns-clause-directed c = grind (arith, n0-resolved, n1_n2-directed)
