-- The displayed text of a whole text, and what a `TextDisplay` has.
use Rattle.std.specs.Prelude.{◌≡◌, ℕ, ◌+◌, ◌++◌, List, [], map, flat_map, slice_range, encode_utf8, Some}
use Rattle.std.specs.declared.ops.Range.{Range}
use Rattle.bidi_base.specs.AnalysedText.{AnalysedText}
use Rattle.bidi_base.specs.Indexes.{at_indexes}
use Rattle.bidi_base.specs.Source.{Source}
use Rattle.bidi_base.specs.Text.{subrange}
use Rattle.bidi_base.specs.Texts.{Encoding, Text}
use Rattle.bidi_base.specs.declared.char_data.BidiClass.{BidiClass}
use Rattle.bidi_base.specs.declared.split_rule.SplitRule.{SplitRule}
use Rattle.bidi_lines.specs.Analysed.{with_lists}
use Rattle.bidi_paragraphs.specs.ParagraphInfo.{ranges_of, levels_of}
use Rattle.bidi_paragraphs.specs.declared.paragraph_info.ParagraphInfo.{ParagraphInfo}
use Rattle.unicode_bidi.specs.Base.{IsAnalysisWith}
use Rattle.unicode_bidi.specs.Content.{content_len}
use Rattle.unicode_bidi.specs.Engine.{found_paragraphs}
use Rattle.unicode_bidi.specs.declared.base.Base.{Base}
use Rattle.bidi_display.specs.DisplayedLine.{clusters_of, cluster_order}
use Rattle.bidi_display.specs.LineChars.{line_chars}
use Rattle.bidi_display.specs.Shown.{cluster_text, options as options_of}
use Rattle.bidi_display.specs.declared.displayed_line.DisplayedLine.{DisplayedLine}
use Rattle.bidi_display.specs.declared.options.DisplayOptions.{DisplayOptions}
use Rattle.bidi_display.specs.declared.text_display.TextDisplay.{TextDisplay}

-- the code unit at which the content of a paragraph ends: before the separators (B) at its end
abbrev pub content_end : AnalysedText → ParagraphInfo → ℕ
content_end a p = p.range.start + content_len (slice_range a.classes p.range.start p.range.end)

-- the content, as a line
abbrev pub content : AnalysedText → ParagraphInfo → Range ℕ
content a p = record { start = p.range.start; end = content_end a p }

-- the displayed characters of a line of an analysed text, whose paragraph has this level, from left to right. They do
-- not depend on the widths of the clusters: here each cluster has no width
unfoldable pub line_text : DisplayOptions → (ℕ → ℕ) → AnalysedText → ℕ → Range ℕ → List ℕ
line_text options mirrored_of a level line =
    let chars = line_chars a level line in
    let clusters = clusters_of options (λ cluster. 0) chars in
    flat_map (λ text. text) (at_indexes [] (map (cluster_text options mirrored_of chars) clusters) (cluster_order clusters))

-- the displayed characters of a paragraph: its content as one line, and then its separators in the order of the text
abbrev pub displayed_paragraph : DisplayOptions → (ℕ → ℕ) → AnalysedText → ParagraphInfo → List ℕ
displayed_paragraph options mirrored_of a p =
    line_text options mirrored_of a p.level (content a p) ++ subrange a.len_of a.chars (content_end a p) p.range.end

-- those of paragraphs, one after another
abbrev pub displayed_paragraphs : DisplayOptions → (ℕ → ℕ) → AnalysedText → List ParagraphInfo → List ℕ
displayed_paragraphs options mirrored_of a ps = flat_map (displayed_paragraph options mirrored_of a) ps

-- `d.classes()`, `d.levels()`, `d.paragraphs()` and `d.line()`
abbrev pub classes : TextDisplay → List BidiClass
classes d = d.classes.items

abbrev pub levels : TextDisplay → List ℕ
levels d = d.levels.items

abbrev pub paragraphs : TextDisplay → List ParagraphInfo
paragraphs d = found_paragraphs d.analyser

abbrev pub line : TextDisplay → DisplayedLine
line d = d.line

-- the value has the same analysed text as before, and the same options
pub record HaveSameText (old new : TextDisplay) : Type 0 where
  pub classes : new.classes.items ≡ old.classes.items
  pub levels : new.levels.items ≡ old.levels.items
  pub paragraphs : found_paragraphs new.analyser ≡ found_paragraphs old.analyser
  pub options : options_of new.line ≡ options_of old.line

-- the value has the analysis of a text, and the text's displayed characters were appended
pub record IsDisplayed {e : Encoding} (source : Source) (base : Base) (rule : SplitRule) (text : Text e)
    (mirrored_of : ℕ → ℕ) (options : DisplayOptions) (before after : List ℕ) (d : TextDisplay) : Type 0 where
  pub analysis : IsAnalysisWith source base (Some rule) (with_lists text (classes d) (levels d)) (ranges_of (paragraphs d)) (levels_of (paragraphs d))
  pub shown : after ≡ before
      ++ flat_map encode_utf8 (displayed_paragraphs options mirrored_of (with_lists text (classes d) (levels d)) (paragraphs d))
