use Rattle.bidi_base.proofs.Common.{◌≡◌, map, range_with_len}
use Rattle.bidi_explain.specs.Blocks.{block_at}
use Rattle.bidi_explain.proofs.blocks.blocks.Given as goal

abbrev pub invariant-loop-index : goal.invariant-loop-index
invariant-loop-index l = l.blocks.items ≡ map (block_at l.columns) (range_with_len 0 l.index)
