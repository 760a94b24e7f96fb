-- What a displayed line shows: which line it is, its characters and clusters, and its text from left to right.
use Rattle.std.specs.Prelude.{◌≡◌, ℕ, All, if◌then◌else◌, List, [], map, flat_map, slice_range, unwrap_or}
use Rattle.std.specs.declared.ops.Range.{Range}
use Rattle.bidi_base.specs.AnalysedText.{AnalysedText, IsLineOf}
use Rattle.bidi_base.specs.Text.{IsLine}
use Rattle.bidi_base.specs.Indexes.{at_indexes}
use Rattle.bidi_base.specs.Levels.{is_odd}
use Rattle.bidi_unicode.specs.Unicode.{mirrored_of}
use Rattle.bidi_display.specs.Carets.{LaidOutLine}
use Rattle.bidi_display.specs.DisplayedLine.{clusters_of, cluster_order}
use Rattle.bidi_display.specs.LineChars.{line_chars}
use Rattle.bidi_display.specs.LineClusters.{displayed_chars}
use Rattle.bidi_display.specs.declared.displayed_line.DisplayedLine.{DisplayedLine}
use Rattle.bidi_display.specs.declared.line_char.LineChar.{LineChar}
use Rattle.bidi_display.specs.declared.line_cluster.LineCluster.{LineCluster}
use Rattle.bidi_display.specs.declared.options.DisplayOptions.{DisplayOptions}

-- the characters and the clusters of the line, in the order of the text
abbrev pub chars : DisplayedLine → List LineChar
chars line = line.lists.chars.items

abbrev pub clusters : DisplayedLine → List LineCluster
clusters line = line.lists.clusters.items

-- the options of the value
abbrev pub options : DisplayedLine → DisplayOptions
options line = line.options

-- the line, for its carets
abbrev pub laid_out : DisplayedLine → LaidOutLine
laid_out line = record { start = line.start; end = line.end; para_level = line.para_level; clusters = clusters line }

-- a cluster takes whole characters of the text, so it can slice the text
abbrev pub CutsNoChar : AnalysedText → LineCluster → Type 0
CutsNoChar a k = IsLine a.len_of a.chars k.start k.end

-- the value shows this line of an analysed text, whose paragraph has this level, with these widths
pub record Displays (width_of : List ℕ → ℕ) (a : AnalysedText) (level : ℕ) (range : Range ℕ) (line : DisplayedLine) : Type 0 where
  pub start : line.start ≡ range.start
  pub end : line.end ≡ range.end
  pub para_level : line.para_level ≡ level
  pub is_line : IsLineOf a range
  pub cut_no_char : All (CutsNoChar a) (clusters line)
  pub chars : chars line ≡ line_chars a level range
  pub clusters : clusters line ≡ clusters_of (options line) width_of (line_chars a level range)

-- the value shows an empty line, at the start of a text, at level 0
pub record IsEmptied (line : DisplayedLine) : Type 0 where
  pub start : line.start ≡ 0
  pub end : line.end ≡ 0
  pub para_level : line.para_level ≡ 0
  pub no_char : chars line ≡ []
  pub no_cluster : clusters line ≡ []

-- by Unicode's data: the mirrored partner of a character, or itself if it has none
abbrev pub unicode_mirrored : ℕ → ℕ
unicode_mirrored c = unwrap_or (mirrored_of c) c

-- a character as it is displayed at its level (L4)
abbrev pub displayed_char : (ℕ → ℕ) → LineChar → ℕ
displayed_char mirrored_of c = if is_odd c.level then mirrored_of c.char else c.char

-- the displayed text of characters, in the order of the text
abbrev pub displayed_part : DisplayOptions → (ℕ → ℕ) → List LineChar → List ℕ
displayed_part options mirrored_of chars = map (displayed_char mirrored_of) (displayed_chars options chars)

-- and that of a cluster of a line
abbrev pub cluster_text : DisplayOptions → (ℕ → ℕ) → List LineChar → LineCluster → List ℕ
cluster_text options mirrored_of chars k = displayed_part options mirrored_of (slice_range chars k.chars_start k.chars_end)

-- the displayed characters of the line, from left to right
unfoldable pub displayed_text : (ℕ → ℕ) → DisplayedLine → List ℕ
displayed_text mirrored_of line =
    flat_map (λ text. text)
    (at_indexes [] (map (cluster_text (options line) mirrored_of (chars line)) (clusters line)) (cluster_order (clusters line)))
