use Rattle.bidi_base.proofs.Common.{arith, list_all-map}
use Rattle.bidi_show_run.proofs.number.LevelWords.parse.Goals as goal

pub returns-then-are_levels : goal.returns-then-are_levels
returns-then-are_levels c = grind (arith, list_all-map)

pub returns-else-are_levels : goal.returns-else-are_levels
returns-else-are_levels c = grind (arith, list_all-map)
