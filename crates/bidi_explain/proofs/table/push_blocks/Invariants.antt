use Rattle.bidi_base.proofs.Common.{◌≡◌, ◌++◌, take, flat_map, string_bytes}
use Rattle.bidi_explain.specs.Tables.{block_text}
use Rattle.bidi_explain.proofs.table.push_blocks.Given as goal

abbrev pub invariant-loop-block : goal.invariant-loop-block
invariant-loop-block l = string_bytes l.out ≡ string_bytes l.fn.out ++ flat_map (block_text l.rows) (take l.block-index l.blocks)
