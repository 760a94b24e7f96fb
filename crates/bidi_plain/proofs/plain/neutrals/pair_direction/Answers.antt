use Rattle.bidi_base.proofs.Common.{true, false, arith}
use Rattle.bidi_base.proofs.BracketRules.{pair_direction-tests}
use Rattle.bidi_plain.proofs.plain.neutrals.pair_direction.Goals as goal

pub returns-then-contains_direction : goal.returns-then-contains_direction
returns-then-contains_direction c = grind (arith, pair_direction-tests)

pub returns-then-contains_any_direction : goal.returns-then-contains_any_direction
returns-then-contains_any_direction c = grind (arith, pair_direction-tests c.args.embedding_direction c.args.sos c.args.classes.now c.args.pair false true)

pub returns-else-contains_any_direction : goal.returns-else-contains_any_direction
returns-else-contains_any_direction c = grind (arith, pair_direction-tests)
