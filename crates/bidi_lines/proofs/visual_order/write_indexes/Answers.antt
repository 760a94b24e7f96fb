use Rattle.bidi_base.proofs.Common.{arith, take_more_set}
use Rattle.bidi_base.proofs.ChainLemmas.{range_with_len-append}
use Rattle.bidi_lines.proofs.visual_order.write_indexes.Goals as goal

pub loop-k-preserved : goal.loop-k-preserved
loop-k-preserved c = grind (arith, take_more_set, range_with_len-append)
