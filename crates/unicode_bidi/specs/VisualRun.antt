-- The level runs (BD7) of a line, from left to right, as ranges or each with its level and its text; and those of a range,
-- in the order of the text.
use Rattle.std.specs.Prelude.{◌≡◌, ℕ, List, map, slice_range, All}
use Rattle.std.specs.declared.ops.Range.{Range}
use Rattle.bidi_base.specs.AnalysedText.{AnalysedText, AreRunsOfLine, IsPartOfLine}
use Rattle.bidi_base.specs.Display.{run_of, run_level, level_runs}
use Rattle.bidi_base.specs.Line.{levels_of_line}
use Rattle.bidi_base.specs.Texts.{Encoding, Text, subrange}
use Rattle.unicode_bidi.specs.declared.visual_run.RunText.{RunText}
use Rattle.unicode_bidi.specs.declared.visual_run.VisualRun.{VisualRun}

abbrev pub range_of : VisualRun → Range ℕ
range_of run = run.range

abbrev pub level_of : VisualRun → ℕ
level_of run = run.level

-- the run has the level of its code units in the line, after L1
abbrev pub HasLevelOfLine : AnalysedText → ℕ → Range ℕ → VisualRun → Type 0
HasLevelOfLine a level line run =
    run.level ≡ run_level line.start (levels_of_line level a.classes a.levels line.start line.end) (run_of run.range)

-- the level runs (BD7) of the line after L1, from left to right (L2), as ranges that can slice the text
pub record AreLineRuns (a : AnalysedText) (level : ℕ) (line : Range ℕ) (shown : List (Range ℕ)) : Type 0 where
  pub runs : AreRunsOfLine a level line (map run_of shown)
  pub parts : All (λ r. IsPartOfLine a line (run_of r)) shown

-- the level runs (BD7) of the line after L1, from left to right (L2), each with its level
pub record AreRunsWithLevels (a : AnalysedText) (level : ℕ) (line : Range ℕ) (shown : List VisualRun) : Type 0 where
  pub runs : AreRunsOfLine a level line (map (λ r. run_of r.range) shown)
  pub levels : All (HasLevelOfLine a level line) shown
  pub parts : All (λ r. IsPartOfLine a line (run_of r.range)) shown

-- the run of a run with its text
abbrev pub run_of_text : {T C I L : Type 0} → RunText T C I L → VisualRun
run_of_text r = r.run

-- each has the characters of its range
abbrev pub HaveTexts : {T C I L : Type 0} {e : Encoding} → Text e → (T → Text e) → List (RunText T C I L) → Type 0
HaveTexts text text_of found = All (λ r. text_of r.text ≡ subrange text r.run.range.start r.run.range.end) found

-- the level runs of the line, each with its level and its text
pub record AreRunTexts {T C I L : Type 0} {e : Encoding} (text : Text e) (text_of : T → Text e) (a : AnalysedText)
    (level : ℕ) (line : Range ℕ) (shown : List (RunText T C I L)) : Type 0 where
  pub runs : AreRunsWithLevels a level line (map run_of_text shown)
  pub texts : HaveTexts text text_of shown

-- the level runs (BD7) of a range of the text by the stored levels, in the order of the text, as ranges that can slice it
pub record AreLogicalRuns (a : AnalysedText) (range : Range ℕ) (found : List (Range ℕ)) : Type 0 where
  pub runs : map run_of found ≡ level_runs range.start (slice_range a.levels range.start range.end)
  pub parts : All (λ r. IsPartOfLine a range (run_of r)) found
