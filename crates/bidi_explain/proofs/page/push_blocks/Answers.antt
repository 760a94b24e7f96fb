use Rattle.bidi_base.proofs.Common.{arith}
use Rattle.bidi_explain.proofs.BlocksLemmas.{one_more}
use Rattle.bidi_explain.specs.Pages.{block_element}
use Rattle.bidi_explain.proofs.page.push_blocks.Goals as goal

pub loop-block-preserved : goal.loop-block-preserved
loop-block-preserved c =
    one_more (block_element c.args.chars.now c.args.stages.now c.args.rows.now c.args.indexes.now) c.args.blocks.now c.loop-block.block-index
    (record { from = 0; columns = 0 }) _ _ _ (omega arith) c.loop-block.invariant c.in_ok-push_block.ensures
