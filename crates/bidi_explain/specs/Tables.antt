-- The stages of a paragraph as a table.
use Rattle.std.specs.Prelude.{ℕ, ◌==◌, if◌then◌else◌, List, [], ◌++◌, length, flat_map, codes, decimal, Option}
use Rattle.bidi_base.specs.declared.char_data.BidiClass.{BidiClass}
use Rattle.bidi_base.specs.Sequences.{RunSequence}
use Rattle.bidi_explain.specs.Cells.{class_name}
use Rattle.bidi_explain.specs.Blocks.{blocks_of, columns_in, part_of}
use Rattle.bidi_explain.specs.Rows.{rows_from}
use Rattle.bidi_explain.specs.declared.blocks.Block.{Block}
use Rattle.bidi_explain.specs.declared.stages.Stages.{Stages}

-- a cell is after a tab
abbrev pub cell_text : List ℕ → List ℕ
cell_text cell = codes "\t" ++ cell

-- a row, as far as a block shows it
abbrev pub row_text : Block → List ℕ × List (List ℕ) → List ℕ
row_text block row = row.0 ++ (flat_map cell_text (part_of block row.1) ++ codes "\n")

-- an empty line is between blocks
abbrev pub gap_text : Block → List ℕ
gap_text block = if block.from == 0 then [] else codes "\n"

-- a block of a table: each row with its label
abbrev pub block_text : List (List ℕ × List (List ℕ)) → Block → List ℕ
block_text rows block = gap_text block ++ flat_map (row_text block) rows

-- an isolating run sequence: its ends, and the indexes of its characters
abbrev pub ends_text : BidiClass → BidiClass → List ℕ
ends_text sos eos = codes "sequence sos " ++ (class_name sos ++ (codes " eos " ++ (class_name eos ++ codes ":")))

abbrev pub sequence_line : BidiClass → BidiClass → List ℕ → List ℕ
sequence_line sos eos places = ends_text sos eos ++ (flat_map (λ p. codes " " ++ decimal p) places ++ codes "\n")

abbrev pub sequence_text : RunSequence → List ℕ
sequence_text s = sequence_line s.sos s.eos s.places

-- the level of a paragraph, blocks of its rows, and its sequences
abbrev pub level_text : ℕ → List ℕ
level_text level = codes "paragraph level " ++ (decimal level ++ codes "\n")

abbrev pub blocks_text : ℕ → List (List ℕ × List (List ℕ)) → List Block → List RunSequence → List ℕ
blocks_text level rows blocks sequences =
    level_text level ++ (flat_map (block_text rows) blocks ++ flat_map sequence_text sequences)

-- the table of a paragraph, from its characters and their stages, for a terminal of this width
abbrev pub table_text : Option ℕ → List ℕ → Stages → List ℕ
table_text width chars s =
    blocks_text s.level (rows_from chars s) (blocks_of (columns_in width (length chars)) (length chars)) s.sequences.items
