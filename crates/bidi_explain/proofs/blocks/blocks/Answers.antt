use Rattle.bidi_base.proofs.Common.{◌≡◌, ◌∙◌, ℕ, List, sym, ap, arith, flat_map, length, map, map-append, range_with_len}
use Rattle.bidi_controls.proofs.IndexLemmas.{next_index}
use Rattle.bidi_explain.specs.Blocks.{block_at, block_count, part_of}
use Rattle.bidi_explain.specs.declared.blocks.Block.{Block}
use Rattle.bidi_explain.proofs.BlocksLemmas.{all-blocks}
use Rattle.bidi_explain.proofs.blocks.blocks.Goals as goal

pub loop-index-preserved : goal.loop-index-preserved
loop-index-preserved c = simp (next_index, map-append, c.in_ok-push.ensures.items, c.loop-index.invariant)

pub returns-clause-whole : goal.returns-clause-whole
returns-clause-whole c =
    λ row long.
    let done : c.loop-index.index ≡ c.block_count-count.result = omega arith in
    let count : c.loop-index.index ≡ block_count c.args.columns (length row) = done ∙ c.block_count-count.ensures ∙ ap (block_count c.args.columns) (sym long) in
    ap (λ (bs : List Block). flat_map (λ b. part_of b row) bs) (c.loop-index.invariant ∙ ap (λ (n : ℕ). map (block_at c.args.columns) (range_with_len 0 n)) count)
    ∙ all-blocks c.args.columns row c.requires
