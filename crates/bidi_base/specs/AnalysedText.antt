-- A text with its classes and levels: what they are, and what the calls on a line of the text return.
use Rattle.std.specs.Prelude.{◌≡◌, ℕ, ◌+◌, ◌<◌, ◌≤◌, All, false, List, [], ◌∷◌, length, Option, None, IfSome, slice_range, zip}
use Rattle.std.specs.declared.ops.Range.{Range}
use Rattle.bidi_base.specs.declared.char_data.BidiClass.{BidiClass}
use Rattle.bidi_base.specs.declared.char_data.BidiClass.TheVariants.{L}
use Rattle.bidi_base.specs.declared.split_rule.SplitRule.{SplitRule}
use Rattle.bidi_base.specs.Display.{Run, line_text, visual_runs, AreVisualRuns}
use Rattle.bidi_base.specs.Laws.{HasOwnUnits, AreLevelsFrom}
use Rattle.bidi_base.specs.Levels.{has_rtl}
use Rattle.bidi_base.specs.Line.{levels_of_line, levels_with_line, char_levels_of_line, char_levels_with_line}
use Rattle.bidi_base.specs.Paragraphs.{pieces_by, ranges_from, AreParagraphRanges}
use Rattle.bidi_base.specs.PerChar.{HaveClass, HaveLevel}
use Rattle.bidi_base.specs.Source.{Source}
use Rattle.bidi_base.specs.Stored.{text_classes, text_levels, stored_levels, paragraph_levels}
use Rattle.bidi_base.specs.Text.{subrange, text_len, per_unit, per_char, IsLine}

-- a text: its characters and their lengths in code units, and the class and the level of each code unit
pub record AnalysedText : Type 0 where
  pub len_of : ℕ → ℕ
  pub chars : List ℕ
  pub classes : List BidiClass
  pub levels : List ℕ

-- a range of its code units that cuts no character
abbrev pub IsLineOf : AnalysedText → Range ℕ → Type 0
IsLineOf a line = IsLine a.len_of a.chars line.start line.end

-- all code units of a character have the same class and the same level
pub record IsPerCharText (a : AnalysedText) : Type 0 where
  pub classes : HaveClass a.len_of a.chars a.classes
  pub levels : HaveLevel a.len_of a.chars a.levels

-- a class, or a level, for each code unit of the text, equal within each character
abbrev pub HasClassPerChar : AnalysedText → List BidiClass → Type 0
HasClassPerChar a classes = HaveClass a.len_of a.chars classes

abbrev pub HasLevelPerChar : AnalysedText → List ℕ → Type 0
HasLevelPerChar a levels = HaveLevel a.len_of a.chars levels

-- ---- what the algorithm finds in a text that a split rule cuts into paragraphs; without one, it is one paragraph

module _ (source : Source) (base_level : Option ℕ) (rule : Option SplitRule) where
  -- P1 to P3 and X5c: these are the stored classes of the text, and the ranges and the levels of its paragraphs
  pub record AreParagraphs (len_of : ℕ → ℕ) (chars : List ℕ) (original_classes : List BidiClass)
      (own_ranges : List (ℕ × ℕ)) (own_levels : List ℕ) : Type 0 where
    pub classes : original_classes ≡ per_unit len_of chars (text_classes source (pieces_by rule source chars))
    pub ranges : own_ranges ≡ ranges_from len_of 0 (pieces_by rule source chars)
    pub para_levels : own_levels ≡ paragraph_levels source base_level (pieces_by rule source chars)
    -- ---- what follows from these three, here so that a caller need not prove it
    -- with a split rule, every code unit is in one paragraph, and separators are only at the ends of paragraphs; with
    -- `CrLfTogether`, a U+000D may also come directly before the U+000A that ends its paragraph
    pub partition : IfSome rule (λ r. AreParagraphRanges r source len_of chars own_ranges)
    -- without a split rule, there is one paragraph, the whole text
    pub whole : rule ≡ None → own_ranges ≡ (0, text_len len_of chars) ∷ []
    -- the classes of the characters depend only on the characters, the data source and the split rule; so two texts
    -- with the same characters have the same ones in all encodings
    pub by_characters : per_char L len_of chars original_classes ≡ text_classes source (pieces_by rule source chars)
    -- all code units of a character have the same class
    pub per_char : HaveClass len_of chars original_classes

  -- P1 to I2: the text also has its stored levels
  pub record IsAnalysis (a : AnalysedText) (own_ranges : List (ℕ × ℕ)) (own_levels : List ℕ) : Type 0 where
    pub paragraphs : AreParagraphs a.len_of a.chars a.classes own_ranges own_levels
    pub levels : a.levels ≡ per_unit a.len_of a.chars (text_levels source base_level (pieces_by rule source a.chars))
    -- ---- what follows from these two
    -- the levels of the characters depend only on the characters, the data source, the base level and the split rule
    pub by_characters : per_char 0 a.len_of a.chars a.levels ≡ text_levels source base_level (pieces_by rule source a.chars)
    -- all code units of a character have the same level
    pub per_char : HaveLevel a.len_of a.chars a.levels
    -- no level is below that of its paragraph or above the maximum
    pub bounded : All (λ p. AreLevelsFrom p.1 (slice_range a.levels p.0.0 p.0.1)) (zip own_ranges own_levels)
    -- each paragraph has the levels that its characters would have as the whole text
    pub each_by_itself : All (HasOwnUnits a.len_of (stored_levels source base_level) a.chars a.levels) own_ranges

-- ---- what the calls on a line return

-- the levels of all code units, after L1 in the line and unchanged outside it: by characters, and by code units
pub record AreLevelsWithLine (a : AnalysedText) (level : ℕ) (line : Range ℕ) (shown : List ℕ) : Type 0 where
  pub characters : shown
      ≡ per_unit a.len_of a.chars
      (char_levels_with_line a.len_of a.chars level a.classes a.levels line.start line.end)
  pub units : shown ≡ levels_with_line level a.classes a.levels line.start line.end

-- these levels, one for each character
abbrev pub levels_with_line_per_char : AnalysedText → ℕ → Range ℕ → List ℕ
levels_with_line_per_char a level line = char_levels_with_line a.len_of a.chars level a.classes a.levels line.start line.end

-- the levels of the line after L1, one for each code unit: by characters, and by code units
pub record AreLevelsOfLine (a : AnalysedText) (level : ℕ) (line : Range ℕ) (shown : List ℕ) : Type 0 where
  pub characters : shown
      ≡ per_unit a.len_of (subrange a.len_of a.chars line.start line.end)
      (char_levels_of_line a.len_of a.chars level a.classes a.levels line.start line.end)
  pub units : shown ≡ levels_of_line level a.classes a.levels line.start line.end
  pub one_per_unit : length shown + line.start ≡ line.end

-- these levels, one for each character of the line
abbrev pub line_levels_per_char : AnalysedText → ℕ → Range ℕ → List ℕ
line_levels_per_char a level line = char_levels_of_line a.len_of a.chars level a.classes a.levels line.start line.end

-- a run is a range of the line that is not empty and cuts no character, so it can slice the text
pub record IsPartOfLine (a : AnalysedText) (line : Range ℕ) (run : Run) : Type 0 where
  pub begins : line.start ≤ run.0
  pub not_empty : run.0 < run.1
  pub ends : run.1 ≤ line.end
  pub is_line : IsLine a.len_of a.chars run.0 run.1

-- the level runs (BD7) of the line after L1, from left to right (L2): as a function, and as the runs that, written out,
-- are the visual order of the line's code units
pub record AreRunsOfLine (a : AnalysedText) (level : ℕ) (line : Range ℕ) (shown : List Run) : Type 0 where
  pub runs : shown ≡ visual_runs line.start (levels_of_line level a.classes a.levels line.start line.end)
  pub visual : AreVisualRuns line.start (levels_of_line level a.classes a.levels line.start line.end) shown
  pub parts : All (IsPartOfLine a line) shown

-- the line's characters in the visual order of their levels after L1, from the text's code units and the encoding of a
-- character
pub record IsTextOfLine (encode : ℕ → List ℕ) (units : List ℕ) (a : AnalysedText) (level : ℕ) (line : Range ℕ)
    (shown : List ℕ) : Type 0 where
  pub text : shown
      ≡ line_text a.len_of encode a.chars units level (per_char L a.len_of a.chars a.classes)
      (per_char 0 a.len_of a.chars a.levels) line.start line.end
  pub empty : line.start ≡ line.end → shown ≡ []

-- no level of the line is odd after L1
abbrev pub StaysInOrder : AnalysedText → ℕ → Range ℕ → Type 0
StaysInOrder a level line = has_rtl (char_levels_of_line a.len_of a.chars level a.classes a.levels line.start line.end) ≡ false
