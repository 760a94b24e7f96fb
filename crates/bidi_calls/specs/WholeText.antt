-- A text that is analysed and displayed in one call, each paragraph as one line.
use Rattle.std.specs.Prelude.{◌≡◌, ℕ, ◌+◌, ◌&&◌, ◌++◌, List, length, flat_map, slice_range, Option, Result, OnOk, OnErr}
use Rattle.std.specs.Option.{option_or}
use Rattle.std.specs.declared.ops.Range.{Range}
use Rattle.bidi_base.specs.AnalysedText.{AnalysedText}
use Rattle.bidi_base.specs.Indexes.{between}
use Rattle.bidi_base.specs.Line.{levels_of_line}
use Rattle.bidi_base.specs.Paragraphs.{pieces_by}
use Rattle.bidi_base.specs.Source.{Source}
use Rattle.bidi_base.specs.Stored.{text_classes}
use Rattle.bidi_base.specs.Text.{char_index, per_unit, subrange}
use Rattle.bidi_base.specs.declared.char_data.BidiClass.{BidiClass}
use Rattle.bidi_base.specs.declared.split_rule.SplitRule.{SplitRule}
use Rattle.bidi_paragraphs.specs.declared.paragraph_info.ParagraphInfo.{ParagraphInfo}
use Rattle.unicode_bidi.specs.Base.{stored_levels_with}
use Rattle.unicode_bidi.specs.Content.{content_len}
use Rattle.unicode_bidi.specs.declared.base.Base.{Base}
use Rattle.bidi_display.specs.DisplayedLine.{clusters_of}
use Rattle.bidi_display.specs.LineChars.{line_chars}
use Rattle.bidi_display.specs.TextDisplay.{line_text}
use Rattle.bidi_display.specs.declared.options.DisplayOptions.{DisplayOptions}
use Rattle.bidi_calls.specs.BaseNumbers.{base_of, is_base}
use Rattle.bidi_calls.specs.Buffers.{paragraphs_in, written_if_room}
use Rattle.bidi_calls.specs.DisplayParts.{found_parts, has_room_for, DisplayParts}
use Rattle.bidi_calls.specs.Flags.{is_flags, mirrored_if, mirrors, options_by}
use Rattle.bidi_calls.specs.ShownOrder.{shown_order}
use Rattle.bidi_calls.specs.declared.buffers.Settings.{Settings}
use Rattle.bidi_calls.specs.declared.display_buffers.DisplayBuffers.{DisplayBuffers}
use Rattle.bidi_numbers.specs.Faults.{fault_unless, has_room_or_none}
use Rattle.bidi_numbers.specs.Numbers.{is_split, split_of}
use Rattle.bidi_numbers.specs.declared.fault.Fault.{Fault}
use Rattle.bidi_numbers.specs.declared.fault.Fault.TheVariants.{BadBaseLevel, BadSplit, BadFlags, NoRoom}
use Rattle.bidi_numbers.specs.declared.structs.Paragraph.{Paragraph}

-- ---- a paragraph of an analysed text, as one line

-- a paragraph as a struct
abbrev pub of_info : ParagraphInfo → Paragraph
of_info p = record { start = p.range.start; end = p.range.end; level = p.level }

-- the code unit at which its content ends: before the separators (B) at its end
abbrev pub content_end : AnalysedText → Paragraph → ℕ
content_end a p = p.start + content_len (slice_range a.classes p.start p.end)

-- its content, as a line
abbrev pub content : AnalysedText → Paragraph → Range ℕ
content a p = record { start = p.start; end = content_end a p }

-- its displayed characters, from left to right: its content as one line, and then its separators in the order of the text
abbrev pub paragraph_text : DisplayOptions → (ℕ → ℕ) → AnalysedText → Paragraph → List ℕ
paragraph_text options mirrored_of a p =
    line_text options mirrored_of a p.level (content a p) ++ subrange a.len_of a.chars (content_end a p) p.end

-- the same as indexes of characters in the text
abbrev pub paragraph_order : DisplayOptions → AnalysedText → Paragraph → List ℕ
paragraph_order options a p =
    let chars = line_chars a p.level (content a p) in
    shown_order options (char_index a.len_of a.chars p.start) chars (clusters_of options (λ cluster. 0) chars)
    ++ between (char_index a.len_of a.chars (content_end a p)) (char_index a.len_of a.chars p.end)

-- the levels of its code units after L1, from the stored classes and levels of the text's code units
abbrev pub paragraph_levels : List BidiClass → List ℕ → Paragraph → List ℕ
paragraph_levels classes levels p = levels_of_line p.level classes levels p.start p.end

-- ---- the text

-- a text with its stored classes (X5c) and its stored levels (X1 to I2)
abbrev pub analysed_by : Source → Base → Option SplitRule → (ℕ → ℕ) → List ℕ → AnalysedText
analysed_by source base rule len_of chars =
    let pieces = pieces_by rule source chars in
    record {
      len_of = len_of;
      chars = chars;
      classes = per_unit len_of chars (text_classes source pieces);
      levels = per_unit len_of chars (flat_map (stored_levels_with source base) pieces);
    }

-- ---- what a call writes

-- the levels after L1, where each paragraph is one line, and the other parts
pub record FoundText (X : Type 0) : Type 0 where
  pub levels : List ℕ
  pub parts : DisplayParts X

-- those of an analysed text with these paragraphs
abbrev pub found_text : {X : Type 0} → DisplayOptions → (ℕ → ℕ) → (ℕ → List X) → AnalysedText → List Paragraph → FoundText X
found_text options mirrored_of encode a ps = record {
  levels = flat_map (paragraph_levels a.classes a.levels) ps;
  parts = found_parts (flat_map encode (flat_map (paragraph_text options mirrored_of a) ps))
      (flat_map (paragraph_order options a) ps) (length a.chars);
}

-- those that the analysis of a text finds
abbrev pub found_in : {X : Type 0} → Source → Base → Option SplitRule → DisplayOptions → (ℕ → ℕ) → (ℕ → ℕ) → (ℕ → List X) → List ℕ → FoundText X
found_in source base rule options mirrored_of len_of encode chars =
    found_text options mirrored_of encode (analysed_by source base rule len_of chars)
    (paragraphs_in source base rule len_of chars)

-- the same from the numbers that a caller passes
abbrev pub found_by : {X : Type 0} → Source → Settings → ℕ → (ℕ → ℕ) → (ℕ → List X) → List ℕ → FoundText X
found_by source settings flags len_of encode chars =
    found_in source (base_of settings.base) (split_of settings.split) (options_by flags) (mirrored_if (mirrors flags)) len_of
    encode chars

-- these lists are what is found
pub record AreParts {X : Type 0} (found : FoundText X) (own_levels : List ℕ) (own_text : List X) (own_order : List ℕ) : Type 0 where
  pub levels : own_levels ≡ found.levels
  pub text : own_text ≡ found.parts.text
  pub order : own_order ≡ found.parts.order

-- the first fault after that of the code units: of the settings, of the flags, and of the room
abbrev pub fault_of_text : {X : Type 0} → FoundText X → Settings → ℕ → List ℕ → DisplayBuffers X → Option Fault
fault_of_text found settings flags levels before =
    option_or (fault_unless (is_base settings.base) BadBaseLevel)
    (option_or (fault_unless (is_split settings.split) BadSplit)
    (option_or (fault_unless (is_flags flags) BadFlags)
    (fault_unless (has_room_or_none (length found.levels) (length levels) && has_room_for found.parts before) NoRoom)))

-- the levels are written to the front of their buffer unless it is empty, or the buffer is unchanged after a fault
pub record WritesLevels (found : List ℕ) (result : Result ℕ Fault) (before after : List ℕ) : Type 0 where
  pub unchanged : OnErr result (after ≡ before)
  pub written : OnOk result (after ≡ written_if_room found before)
