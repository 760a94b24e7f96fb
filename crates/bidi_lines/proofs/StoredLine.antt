-- A line of a text whose stored classes and levels pass the test `is_per_char`, as those of the info types do.
use Rattle.bidi_base.proofs.Common.{◌≡◌, ℕ, ◌≤◌, List, length, refl, ◌∙◌, arith, IsTrue, slice_range, Range, AnalysedText, line_levels_per_char, has_rtl, levels_of_line, levels_with_line}
use Rattle.bidi_base.proofs.Common.{char_levels_of_line, char_levels_with_line, text_len, subrange, per_char, is_per_char, IsLine, IsPerChar, AreLevelsOfLine, IsTextOfLine, StaysInOrder}
use Rattle.bidi_base.specs.AnalysedText.{AreLevelsWithLine, levels_with_line_per_char}
use Rattle.bidi_base.specs.declared.char_data.BidiClass.{BidiClass}
use Rattle.bidi_base.proofs.PerUnit.{length-per_char, per_char-per_unit}
use Rattle.bidi_base.proofs.UnitIndexLemmas.{line_unit_indexes, text_len-subrange}
use Rattle.bidi_text.proofs.PerCharTests.{class_eq, class_test, level_eq, level_test}
use Rattle.bidi_base.proofs.TextLemmas.{HasUnits}
use Rattle.bidi_base.proofs.UnitsLemmas.{IsPerChar-from_is_per_char, length-from_IsPerChar}
use Rattle.bidi_lines.proofs.LineInText.{length-part, length-line}
use Rattle.bidi_lines.specs.LineUnits.{line_units}
use Rattle.bidi_lines.proofs.TextOfLine as line_of

module _ (len_of : ℕ → ℕ) (some : HasUnits len_of) (chars : List ℕ) where
  pub classes_IsPerChar : (classes : List BidiClass) → IsTrue (is_per_char class_eq len_of chars classes) → IsPerChar len_of chars classes
  classes_IsPerChar classes h = IsPerChar-from_is_per_char class_eq class_test len_of some chars classes h

  pub levels_IsPerChar : (levels : List ℕ) → IsTrue (is_per_char level_eq len_of chars levels) → IsPerChar len_of chars levels
  levels_IsPerChar levels h = IsPerChar-from_is_per_char level_eq level_test len_of some chars levels h

  module _ (level : ℕ) (classes : List BidiClass) (levels : List ℕ) (line : Range ℕ)
      (of_classes : IsTrue (is_per_char class_eq len_of chars classes)) (of_levels : IsTrue (is_per_char level_eq len_of chars levels)) (is_line : IsLine len_of chars line.start line.end) where
    pub same_len : length levels ≡ length classes
    same_len = line_of.line-same_len len_of some chars level classes levels line.start line.end (classes_IsPerChar classes of_classes) (levels_IsPerChar levels of_levels) is_line

    pub within : line.end ≤ length levels
    within = line_of.line-within len_of some chars level classes levels line.start line.end (classes_IsPerChar classes of_classes) (levels_IsPerChar levels of_levels) is_line

    pub one_per_unit : length levels ≡ text_len len_of chars
    one_per_unit = length-from_IsPerChar len_of chars levels (levels_IsPerChar levels of_levels)

    pub of_units : (shown : List ℕ) → shown ≡ levels_with_line level classes levels line.start line.end
        → AreLevelsWithLine (record { len_of = len_of; chars = chars; classes = classes; levels = levels }) level line shown
    of_units shown e = grind (arith, line_of.levels_with_line-chars, classes_IsPerChar, levels_IsPerChar)

    pub of_line : (shown : List ℕ) → shown ≡ levels_of_line level classes levels line.start line.end
        → AreLevelsOfLine (record { len_of = len_of; chars = chars; classes = classes; levels = levels }) level line shown
    of_line shown e = grind (arith, line_of.levels_of_line-per_unit, line_of.length-levels_of_line, classes_IsPerChar, levels_IsPerChar)

    pub of_chars : (shown : List ℕ) → shown ≡ per_char 0 len_of chars (levels_with_line level classes levels line.start line.end)
        → shown ≡ levels_with_line_per_char (record { len_of = len_of; chars = chars; classes = classes; levels = levels }) level line
    of_chars shown e = grind (arith, line_of.per_char-levels_with_line, classes_IsPerChar, levels_IsPerChar)

    -- L1 on the code units, read by characters, is L1 on the characters
    pub of_chars-units : (shown : List ℕ) → shown ≡ levels_with_line level classes levels line.start line.end
        → per_char 0 len_of chars shown ≡ char_levels_with_line len_of chars level classes levels line.start line.end
    of_chars-units shown e = grind (arith, line_of.per_char-levels_with_line, classes_IsPerChar, levels_IsPerChar)

    pub has_rtl-chars : has_rtl (levels_of_line level classes levels line.start line.end) ≡ has_rtl (char_levels_of_line len_of chars level classes levels line.start line.end)
    has_rtl-chars = line_of.has_rtl-chars len_of some chars level classes levels line.start line.end (classes_IsPerChar classes of_classes) (levels_IsPerChar levels of_levels) is_line

    -- the line's runs, written one after the other, are its text
    pub of_text : (encode : ℕ → List ℕ) (units shown : List ℕ) → length units ≡ text_len len_of chars
        → shown ≡ line_units encode units (record { len_of = len_of; chars = chars; classes = classes; levels = levels }) level line
        → IsTextOfLine encode units (record { len_of = len_of; chars = chars; classes = classes; levels = levels }) level line shown
    of_text encode units shown long e =
        let is = e ∙ line_of.flat_map-runs len_of some chars level classes levels line.start line.end (classes_IsPerChar classes of_classes) (levels_IsPerChar levels of_levels) is_line encode units _ long refl in
        grind (arith, line_of.line_text-empty)

    -- where no level of the line is odd its text is the line's part of the text
    pub still : (encode : ℕ → List ℕ) (units shown : List ℕ) → length units ≡ text_len len_of chars
        → StaysInOrder (record { len_of = len_of; chars = chars; classes = classes; levels = levels }) level line → shown ≡ slice_range units line.start line.end
        → IsTextOfLine encode units (record { len_of = len_of; chars = chars; classes = classes; levels = levels }) level line shown
    still encode units shown long even e = grind (
      arith,
      line_of.line_text-still,
      line_of.line_text-empty,
      classes_IsPerChar,
      levels_IsPerChar,
      has_rtl-chars,
    )

-- ---- the levels of the line's characters

module _ (a : AnalysedText) (some : HasUnits a.len_of) (level : ℕ) (line : Range ℕ) (is_line : IsLine a.len_of a.chars line.start line.end) where
  length-line_levels_per_char : length (line_levels_per_char a level line) ≡ length (subrange a.len_of a.chars line.start line.end)
  length-line_levels_per_char = grind (arith, line_unit_indexes, length-line, length-per_char, length-part)

  module _ (shown : List ℕ) (levels : AreLevelsOfLine a level line shown) where
    -- one level for each code unit of the line's text
    pub length-shown : length shown ≡ text_len a.len_of (subrange a.len_of a.chars line.start line.end)
    length-shown = omega (arith, levels.one_per_unit, text_len-subrange a.len_of some a.chars line.start line.end is_line)

    -- read by characters
    pub per_char-shown : per_char 0 a.len_of (subrange a.len_of a.chars line.start line.end) shown ≡ line_levels_per_char a level line
    per_char-shown =
        rw levels.characters (per_char-per_unit a.len_of some 0 (subrange a.len_of a.chars line.start line.end) (line_levels_per_char a level line) length-line_levels_per_char)
