use Rattle.bidi_base.proofs.Common.{◌≡◌, range_with_len}
use Rattle.bidi_explain.proofs.page.indexes_below.Given as goal

abbrev pub invariant-loop-index : goal.invariant-loop-index
invariant-loop-index l = l.indexes.items ≡ range_with_len 0 l.index
