-- Wide tables, in blocks of columns.
use Rattle.std.specs.Prelude.{ℕ, ◌+◌, ◌-◌, ◌*◌, ◌/◌, max, List, map, take, drop, Option, Some, None}
use Rattle.std.specs.List.{range_with_len}
use Rattle.bidi_explain.specs.declared.blocks.Block.{Block}

-- the maximum number of columns of a block of a table, for a terminal of this width: the labels take 16 columns of the
-- terminal, and each cell takes 8. It is at least 1. Without a width, it is all columns
abbrev pub columns_in : Option ℕ → ℕ → ℕ
columns_in None len = max len 1
columns_in (Some width) len = max ((width - 16) / 8) 1

-- how many blocks of so many columns there are, if the table has `len` columns: at least one
abbrev pub block_count : ℕ → ℕ → ℕ
block_count columns len = (max len 1 - 1) / columns + 1

-- a block: where it begins, and its maximum number of columns
abbrev pub block_at : ℕ → ℕ → Block
block_at columns k = record { from = k * columns; columns = columns }

-- all blocks
abbrev pub blocks_of : ℕ → ℕ → List Block
blocks_of columns len = map (block_at columns) (range_with_len 0 (block_count columns len))

-- the part of a row that is in a block
abbrev pub part_of : {A : Type 0} → Block → List A → List A
part_of block items = take block.columns (drop block.from items)
