use Rattle.bidi_base.proofs.Common.{arith}
use Rattle.bidi_base.proofs.PairsLemmas.{bracket_pairs-in_order}
use Rattle.bidi_plain.proofs.plain.bracket_pairs.pairs.Goals as goal

pub returns-clause-within : goal.returns-clause-within
returns-clause-within c = grind (arith, bracket_pairs-in_order)
