-- The stages of a paragraph as a section of a page of HTML.
use Rattle.std.specs.Prelude.{ℕ, Bool, not, ◌-◌, ◌&&◌, ◌||◌, ◌==◌, nat_le, nat_lt, if◌then◌else◌, List, [], ◌++◌, length, get_or, flat_map, codes, decimal}
use Rattle.std.specs.List.{range_with_len}
use Rattle.bidi_base.specs.declared.char_data.BidiClass.{BidiClass}
use Rattle.bidi_base.specs.Levels.{is_odd}
use Rattle.bidi_base.specs.Indexes.{class_at}
use Rattle.bidi_base.specs.Sequences.{RunSequence, level_at}
use Rattle.bidi_explain.specs.Cells.{glyph}
use Rattle.bidi_explain.specs.Blocks.{blocks_of, part_of}
use Rattle.bidi_explain.specs.Rows.{stage_rows}
use Rattle.bidi_explain.specs.Tables.{level_text, sequence_text}
use Rattle.bidi_explain.specs.declared.blocks.Block.{Block}
use Rattle.bidi_explain.specs.declared.stages.Stages.{Stages}

-- what is written for a character between tags: a character that could begin or end a tag is written as its reference
abbrev pub escaped : BidiClass → ℕ → List ℕ
escaped class c =
    if c == 0x26 then codes "&amp;"
    else if c == 0x3C then codes "&lt;" else if c == 0x3E then codes "&gt;" else glyph class c

-- a byte that neither begins nor ends a tag
abbrev pub is_text_byte : ℕ → Bool
is_text_byte b = not (b == 0x3C || b == 0x3E)

-- the tag that begins the box of the character at an index, of this level; `tag` is what it begins with
abbrev pub level_attribute : ℕ → List ℕ
level_attribute level = if is_odd level then codes "\" class=\"rtl\" style=\"--level:" else codes "\" style=\"--level:"

abbrev pub box_start : List ℕ → ℕ → ℕ → List ℕ
box_start tag at level = tag ++ (decimal at ++ (level_attribute level ++ (decimal level ++ codes "\">")))

-- the box of a character
abbrev pub box_text : List ℕ → ℕ → ℕ → BidiClass → ℕ → List ℕ
box_text tag at level class c = box_start tag at level ++ (escaped class c ++ codes "</td>")

-- that of the character at an index
abbrev pub box_at : List ℕ → List ℕ → Stages → ℕ → List ℕ
box_at tag chars s i = box_text tag i (level_at s.line_levels.items i) (class_at s.classes.items i) (get_or chars i 0)

-- boxes in logical order, which can have the focus, and in visual order
abbrev pub boxes_row : List ℕ → Stages → List ℕ → List ℕ
boxes_row chars s indexes =
    codes "<tr><th>character</th>"
    ++ (flat_map (box_at (codes "<td tabindex=\"0\" data-at=\"") chars s) indexes ++ codes "</tr>\n")

abbrev pub shown_row : List ℕ → Stages → List ℕ → List ℕ
shown_row chars s indexes =
    codes "<tr><th>as shown</th>" ++ (flat_map (box_at (codes "<td data-at=\"") chars s) indexes ++ codes "</tr>\n")

-- a line from the logical index of a character to its visual index
abbrev pub link : ℕ → ℕ → List ℕ
link logical visual =
    codes "<line data-at=\""
    ++ (decimal logical
    ++ (codes "\" x1=\"" ++ (decimal logical ++ (codes "\" y1=\"0\" x2=\"" ++ (decimal visual ++ codes "\" y2=\"1\"/>")))))

-- the same, only if the visual index is in the block
abbrev pub is_in_block : Block → ℕ → Bool
is_in_block block place = nat_le block.from place && nat_lt (place - block.from) block.columns

abbrev pub link_in : Block → ℕ → ℕ → List ℕ
link_in block logical visual = if is_in_block block visual then link logical visual else []

abbrev pub link_from : Block → List ℕ → ℕ → List ℕ
link_from block places i = link_in block i (get_or places i 0)

-- the lines between the two rows of boxes of a block
abbrev pub links_start : ℕ → ℕ → List ℕ
links_start from columns =
    codes "<tr><th></th><td colspan=\""
    ++ (decimal columns
    ++ (codes "\"><svg preserveAspectRatio=\"none\" viewBox=\"" ++ (decimal from ++ (codes " 0 " ++ (decimal columns ++ codes " 1\">")))))

abbrev pub links_row : Block → List ℕ → List ℕ → List ℕ
links_row block places indexes =
    links_start block.from (length indexes) ++ (flat_map (link_from block places) indexes ++ codes "</svg></td></tr>\n")

-- a row of a stage, as far as a block shows it
abbrev pub cell_element : List ℕ → List ℕ
cell_element cell = codes "<td>" ++ (cell ++ codes "</td>")

abbrev pub row_element : Block → List ℕ × List (List ℕ) → List ℕ
row_element block row =
    codes "<tr><th>" ++ (row.0 ++ (codes "</th>" ++ (flat_map cell_element (part_of block row.1) ++ codes "</tr>\n")))

-- a block, from the indexes of all characters in logical order: its boxes with the rows of all stages below them, and
-- its boxes in visual order with the lines above them
abbrev pub upper_part : List ℕ → Stages → List (List ℕ × List (List ℕ)) → List ℕ → Block → List ℕ
upper_part chars s rows indexes block =
    codes "<table>\n<tbody>\n"
    ++ (boxes_row chars s (part_of block indexes) ++ (flat_map (row_element block) rows ++ codes "</tbody>\n"))

abbrev pub lower_part : List ℕ → Stages → List ℕ → Block → List ℕ
lower_part chars s indexes block =
    codes "<tfoot>\n"
    ++ (links_row block s.places.items (part_of block indexes)
    ++ (shown_row chars s (part_of block s.order.items) ++ codes "</tfoot>\n</table>\n"))

abbrev pub block_element : List ℕ → Stages → List (List ℕ × List (List ℕ)) → List ℕ → Block → List ℕ
block_element chars s rows indexes block = upper_part chars s rows indexes block ++ lower_part chars s indexes block

-- the level of a paragraph, and its sequences
abbrev pub summary_text : ℕ → List RunSequence → List ℕ
summary_text level sequences =
    codes "<section>\n<pre>" ++ (level_text level ++ (flat_map sequence_text sequences ++ codes "</pre>\n"))

-- the section of a paragraph, from its characters and their stages: blocks of 30 columns
abbrev pub section_text : List ℕ → Stages → List ℕ
section_text chars s =
    summary_text s.level s.sequences.items
    ++ (flat_map (block_element chars s (stage_rows chars s) (range_with_len 0 (length chars))) (blocks_of 30 (length chars))
    ++ codes "</section>\n")
