-- The characters of a line of an analysed text.
use Rattle.std.specs.Prelude.{ℕ, ◌+◌, List, map, get_or, slice_range}
use Rattle.std.specs.declared.ops.Range.{Range}
use Rattle.bidi_base.specs.declared.char_data.BidiClass.{BidiClass}
use Rattle.bidi_base.specs.declared.char_data.BidiClass.TheVariants.{L}
use Rattle.bidi_base.specs.AnalysedText.{AnalysedText, line_levels_per_char}
use Rattle.bidi_base.specs.Indexes.{indexes, class_at}
use Rattle.bidi_base.specs.Text.{per_char, subrange, unit_index}
use Rattle.bidi_display.specs.declared.line_char.LineChar.{LineChar}

-- the k-th character of a line that starts at a code unit, from the line's characters, their stored classes and their
-- levels after L1
abbrev pub line_char_at : (ℕ → ℕ) → ℕ → List ℕ → List BidiClass → List ℕ → ℕ → LineChar
line_char_at len_of start chars classes levels k = record {
  start = start + unit_index len_of chars k;
  end = start + unit_index len_of chars k + len_of (get_or chars k 0);
  char = get_or chars k 0;
  class = class_at classes k;
  level = get_or levels k 0;
}

abbrev pub line_chars_by : (ℕ → ℕ) → ℕ → List ℕ → List BidiClass → List ℕ → List LineChar
line_chars_by len_of start chars classes levels = map (line_char_at len_of start chars classes levels) (indexes chars)

-- the characters of a line of an analysed text, whose paragraph has this level
unfoldable pub line_chars : AnalysedText → ℕ → Range ℕ → List LineChar
line_chars a level line =
    let chars = subrange a.len_of a.chars line.start line.end in
    line_chars_by a.len_of line.start chars (per_char L a.len_of chars (slice_range a.classes line.start line.end))
    (line_levels_per_char a level line)
