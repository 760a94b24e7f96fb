-- The levels and runs of a shown line, and which line of a text it shows.
use Rattle.std.specs.Prelude.{◌≡◌, ℕ, ◌-◌, List, length, take, drop}
use Rattle.std.specs.declared.ops.Range.{Range}
use Rattle.bidi_base.specs.AnalysedText.{AnalysedText, AreLevelsOfLine, IsTextOfLine}
use Rattle.bidi_base.specs.Display.{Run}
use Rattle.bidi_lines.specs.LineRuns as line_runs
use Rattle.bidi_lines.specs.LineLevels as line_levels
use Rattle.bidi_lines.specs.declared.shown_line.ShownLine.{ShownLine}

module _ {T C I L : Type 0} {t : _} {c : _} {i : _} {l : _} (shown : ShownLine T C I L t c i l) where
  -- the whole text that the line is a range of
  abbrev pub text_of : T
  text_of = shown.text

  -- the levels of the line's code units, and its runs from left to right
  abbrev pub levels : List ℕ
  levels = take (shown.end - shown.start) (line_levels.levels shown.levels)

  abbrev pub runs : List Run
  runs = line_runs.runs shown.runs

  -- the value shows this line of an analysed text, with this paragraph level
  pub record Shows (a : AnalysedText) (level : ℕ) (line : Range ℕ) : Type 0 where
    pub len_of : a.len_of ≡ t.encoding.len_of
    pub chars : a.chars ≡ (t.text text_of).chars
    pub start : shown.start ≡ line.start
    pub end : shown.end ≡ line.end
    pub levels : AreLevelsOfLine a level line levels

-- the text of a line was appended to a text
pub record AppendsTextOfLine (encode : ℕ → List ℕ) (units : List ℕ) (a : AnalysedText) (level : ℕ) (line : Range ℕ)
    (old new : List ℕ) : Type 0 where
  pub kept : take (length old) new ≡ old
  pub text : IsTextOfLine encode units a level line (drop (length old) new)
