-- What is shown of a line, of a paragraph and of a text.
use Rattle.std.specs.Prelude.{ℕ, ◌==◌, if◌then◌else◌, List, [], ◌∷◌, ◌++◌, map, flat_map, get_or, replicate, codes, Option, Some, None, encode_utf8}
use Rattle.std.specs.Char.{len_utf8}
use Rattle.std.specs.declared.ops.Range.{Range}
use Rattle.bidi_base.specs.AnalysedText.{AnalysedText}
use Rattle.bidi_base.specs.Display.{Run}
use Rattle.bidi_base.specs.Isolates.{paragraph_level, stored_classes}
use Rattle.bidi_base.specs.Paragraphs.{cr_lf_together, own_chars, paragraphs_in}
use Rattle.bidi_base.specs.Source.{Source}
use Rattle.bidi_base.specs.Stored.{stored_levels}
use Rattle.bidi_base.specs.Text.{per_unit, text_len}
use Rattle.bidi_display.specs.DisplayedLine.{cluster_order, clusters_of}
use Rattle.bidi_display.specs.LineBreaks.{lines_of, shown_end, simple_break_after}
use Rattle.bidi_display.specs.LineChars.{line_chars}
use Rattle.bidi_display.specs.Shown.{cluster_text}
use Rattle.bidi_display.specs.declared.line_char.LineChar.{LineChar}
use Rattle.bidi_display.specs.declared.line_cluster.LineCluster.{LineCluster}
use Rattle.bidi_terminal.specs.Bases.{level_of_base}
use Rattle.bidi_shown.specs.Breaks.{or_empty}
use Rattle.bidi_shown.specs.Plain.{plain_paragraph}
use Rattle.bidi_shown.specs.Views.{columns_in, mirrored_in, options_in}
use Rattle.bidi_shown.specs.declared.view.View.{View}

-- a displayed character of a cluster, a tab as spaces of the width of the cluster
abbrev pub spaced : ℕ → ℕ → List ℕ
spaced width c = if c == 0x09 then replicate width 0x20 else c ∷ []

-- the displayed characters of a cluster of a line, with spaces for a tab
abbrev pub spaced_cluster : View → List LineChar → LineCluster → List ℕ
spaced_cluster view chars k = flat_map (spaced k.width) (cluster_text (options_in view) (mirrored_in view) chars k)

-- those of all clusters of a line, from left to right
unfoldable pub spaced_text : View → List LineChar → List LineCluster → List ℕ
spaced_text view chars ks = flat_map (λ i. get_or (map (spaced_cluster view chars) ks) i []) (cluster_order ks)

-- the clusters of a line
abbrev pub clusters_in : View → List LineChar → List LineCluster
clusters_in view chars = clusters_of (options_in view) (columns_in view) chars

-- an analysed paragraph, with its level
module _ (view : View) (a : AnalysedText) (level : ℕ) where
  -- a line of it as it is shown, ended by a line feed
  unfoldable pub displayed_range : Range ℕ → List ℕ
  displayed_range line =
      flat_map encode_utf8 (spaced_text view (line_chars a level line) (clusters_in view (line_chars a level line)))
      ++ codes "\n"

  -- the line without the white space at its end
  unfoldable pub part_of : Range ℕ → Range ℕ
  part_of line = record {
    start = line.start;
    end = shown_end (line_chars a level line) line.start (clusters_in view (line_chars a level line));
  }

  -- the whole paragraph as a line
  abbrev pub whole : Range ℕ
  whole = record { start = 0; end = text_len a.len_of a.chars }

  -- the lines of at most so many columns, as ranges of its code units. An empty paragraph is one empty line
  unfoldable pub ranges_within : ℕ → List Run
  ranges_within width =
      or_empty (lines_of (options_in view) simple_break_after width (line_chars a level whole) 0
      (clusters_in view (line_chars a level whole)))

  -- one of these lines as it is shown
  abbrev pub displayed_part : Run → List ℕ
  displayed_part run = displayed_range (part_of (record { start = run.0; end = run.1 }))

  -- the paragraph as it is shown: as one line, or as lines of at most so many columns
  unfoldable pub displayed_lines : Option ℕ → List ℕ
  displayed_lines None = displayed_range whole
  displayed_lines (Some width) = flat_map displayed_part (ranges_within width)

-- a paragraph in UTF-8, with its stored classes and levels
abbrev pub analysed_paragraph : Source → Option ℕ → List ℕ → AnalysedText
analysed_paragraph source base_level chars = record {
  len_of = len_utf8;
  chars = chars;
  classes = per_unit len_utf8 chars (stored_classes (map source.class_of chars));
  levels = per_unit len_utf8 chars (stored_levels source base_level chars);
}

-- the paragraph as it is displayed
unfoldable pub displayed_paragraph : Source → View → List ℕ → List ℕ
displayed_paragraph source view chars =
    displayed_lines view (analysed_paragraph source (level_of_base view.base) chars)
    (paragraph_level (level_of_base view.base) (map source.class_of chars)) view.width

-- the lines of a paragraph
unfoldable pub shown_paragraph : Source → View → List ℕ → List ℕ
shown_paragraph source view chars =
    if view.plain then plain_paragraph source view chars else displayed_paragraph source view chars

-- the characters after the first paragraph
abbrev pub after_first : Source → List ℕ → List ℕ
after_first source [] = []
after_first source (c ∷ cs) = if cr_lf_together source c cs then cs else after_first source cs

-- the lines of a text, paragraph by paragraph, without their separators
unfoldable pub shown_text : Source → View → List ℕ → List ℕ
shown_text source view chars = flat_map (λ p. shown_paragraph source view (own_chars source p)) (paragraphs_in source chars)
