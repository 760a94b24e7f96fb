use Rattle.bidi_base.proofs.Common.{arith}
use Rattle.bidi_explicit.proofs.WalkLemmas.{forwards-in_order, part_after}
use Rattle.bidi_rules.proofs.neutral.directions.Join.write_waiting.Goals as goal

pub write_over_runs-requires-clause-ordered : goal.write_over_runs-requires-clause-ordered
write_over_runs-requires-clause-ordered c = grind (arith, forwards-in_order) steps 400000

pub returns-then-self-to-clause-held : goal.returns-then-self-to-clause-held
returns-then-self-to-clause-held c = grind (arith, part_after)
