use Rattle.bidi_controls.proofs.IndexLemmas.{next_index}
use Rattle.bidi_explain.proofs.page.indexes_below.Goals as goal

pub loop-index-preserved : goal.loop-index-preserved
loop-index-preserved c = simp (next_index, c.in_ok-push.ensures.items, c.loop-index.invariant)
