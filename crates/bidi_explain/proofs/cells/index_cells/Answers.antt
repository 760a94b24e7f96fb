use Rattle.bidi_base.proofs.Common.{arith, map-append}
use Rattle.bidi_controls.proofs.IndexLemmas.{next_index}
use Rattle.bidi_explain.proofs.cells.index_cells.Goals as goal

pub loop-index-preserved : goal.loop-index-preserved
loop-index-preserved c = grind (arith, map-append, next_index)
