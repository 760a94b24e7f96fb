use Rattle.bidi_base.proofs.Common.{arith, common_steps, flat_map_more}
use Rattle.bidi_explain.proofs.table.push_sequences.Goals as goal

pub loop-sequence-preserved : goal.loop-sequence-preserved
loop-sequence-preserved c = grind (arith, common_steps, flat_map_more)
