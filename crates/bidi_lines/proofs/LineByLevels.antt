-- A line that is shown, by its levels: its runs, its text, and the order of its characters.
use Rattle.bidi_base.proofs.Common.{◌≡◌, ℕ, ◌-◌, ◌≤◌, List, [], length, take, refl, sym, ap, subst, ◌∙◌, arith, Range, is_odd, has_rtl, reordered_text, line_text, line_levels_after, line_levels}
use Rattle.bidi_base.proofs.Common.{levels_of_line, text_len, unit_index, char_index, subrange, per_unit, is_per_char, IsLine, All, Run, visual_runs, visual_order, AnalysedText, line_levels_per_char}
use Rattle.bidi_base.proofs.Common.{take_all, slice_range, IsTrue, ◌↔◌, not, AreLevelsOfLine, AreRunsOfLine, IsTextOfLine, StaysInOrder}
use Rattle.bidi_base.specs.declared.char_data.BidiClass.{BidiClass}
use Rattle.bidi_text.proofs.PerCharTests.{class_eq, level_eq}
use Rattle.bidi_base.proofs.TextLemmas.{HasUnits}
use Rattle.bidi_base.proofs.PerUnit.{length-per_char}
use Rattle.bidi_base.proofs.UnitIndexLemmas.{unit_index-zero, unit_index-end, IsLine-unit_indexes, IsLineAt, line_unit_indexes}
use Rattle.bidi_lines.proofs.LineInText.{length-part, length-line}
use Rattle.bidi_lines.proofs.FoundRuns.{AreVisualRuns-from_same}
use Rattle.bidi_lines.proofs.LineText.{reordered_text-line}
use Rattle.bidi_lines.proofs.LineUnits.{list_any-per_unit}
use Rattle.bidi_lines.proofs.TextOfLine.{line_text-empty, visual_runs_at_boundaries}
use Rattle.bidi_lines.proofs.StoredLine.{of_line, classes_IsPerChar, levels_IsPerChar}
use Rattle.bidi_lines.specs.LineUnits.{visual_units, AreRunsOfChars}

-- ---- the empty line at the start of a text

pub empty-IsLine : (len_of : ℕ → ℕ) (chars : List ℕ) → IsLine len_of chars 0 0
empty-IsLine len_of chars = rw (unit_index-zero len_of chars) at (IsLine-unit_indexes len_of chars 0 0 (omega arith))

pub empty-runs : (start : ℕ) → visual_runs start [] ≡ []
unfolding visual_runs visual_order
empty-runs start = refl

pub empty-runs_of_chars : (len_of : ℕ → ℕ) (chars : List ℕ) (start : ℕ) → AreRunsOfChars len_of chars start []
empty-runs_of_chars len_of chars start k d fits = absurd (omega (arith, fits, ap length (empty-runs start)))

-- whatever levels are kept of another line
module _ (len_of : ℕ → ℕ) (chars : List ℕ) (start end : ℕ) (begins : start ≡ 0) (ends : end ≡ 0) where
  pub none-shown : (levels : List ℕ) → take (end - start) levels ≡ []
  none-shown levels = rw (begins, ends) refl

  pub none-runs : (runs : List Run) (levels : List ℕ) → runs ≡ [] → runs ≡ visual_runs start (take (end - start) levels)
  none-runs runs levels e = e ∙ sym (ap (visual_runs start) (none-shown levels) ∙ empty-runs start)

  pub none-runs_of_chars : (levels : List ℕ) → AreRunsOfChars len_of chars start (take (end - start) levels)
  none-runs_of_chars levels = subst (AreRunsOfChars len_of chars start) (sym (none-shown levels)) (empty-runs_of_chars len_of chars start)

pub empty-levels : (a : AnalysedText) (level : ℕ) → AreLevelsOfLine a level (record { start = 0; end = 0 }) []
unfolding line_levels line_levels_after
empty-levels a level = record { characters = grind arith; units = refl; one_per_unit = refl }

-- ---- a line of a text with stored classes and levels

module _ (len_of : ℕ → ℕ) (some : HasUnits len_of) (chars : List ℕ) (level : ℕ) (classes : List BidiClass) (levels : List ℕ) (line : Range ℕ)
    (of_classes : IsTrue (is_per_char class_eq len_of chars classes)) (of_levels : IsTrue (is_per_char level_eq len_of chars levels)) (is_line : IsLine len_of chars line.start line.end)
    (shown : List ℕ) (is : shown ≡ levels_of_line level classes levels line.start line.end) where
  pub stored-levels : AreLevelsOfLine (record { len_of = len_of; chars = chars; classes = classes; levels = levels }) level line shown
  stored-levels = of_line len_of some chars level classes levels line of_classes of_levels is_line shown is

  pub stored-all : take (line.end - line.start) shown ≡ shown
  stored-all = take_all (line.end - line.start) shown (omega (arith, stored-levels.one_per_unit))

  pub stored-runs_of_chars : AreRunsOfChars len_of chars line.start shown
  stored-runs_of_chars =
      subst (AreRunsOfChars len_of chars line.start) (sym is)
      (visual_runs_at_boundaries len_of some chars level classes levels line.start line.end (classes_IsPerChar len_of some chars classes of_classes) (levels_IsPerChar len_of some chars levels of_levels) is_line)

-- ---- a line whose levels are known

-- a line from the character i up to the character j, by the levels of its characters
text-at : (len_of : ℕ → ℕ) → HasUnits len_of → (encode : ℕ → List ℕ) (chars units of_chars shown : List ℕ) (i j start end : ℕ) → i ≤ j → j ≤ length chars
    → length units ≡ text_len len_of chars → length of_chars ≡ j - i → start ≡ unit_index len_of chars i → end ≡ unit_index len_of chars j → shown ≡ per_unit len_of (slice_range chars i j) of_chars
    → visual_units len_of encode chars units start shown ≡ reordered_text len_of encode (slice_range chars i j) (slice_range units start end) of_chars
text-at len_of some encode chars units of_chars shown i j start end up within same long begins ends is =
    simp (begins, ends, is)
    (sym (reordered_text-line len_of some encode chars units of_chars i j up within (same ∙ sym (unit_index-end len_of chars (length chars) (omega arith))) long))

module _ (a : AnalysedText) (some : HasUnits a.len_of) (level : ℕ) (line : Range ℕ) (is_line : IsLine a.len_of a.chars line.start line.end)
    (shown : List ℕ) (levels : AreLevelsOfLine a level line shown) where
  ends : IsLineAt a.len_of a.chars line.start line.end (char_index a.len_of a.chars line.start) (char_index a.len_of a.chars line.end)
  ends = line_unit_indexes a.len_of some a.chars line.start line.end is_line

  long : length (line_levels_per_char a level line) ≡ char_index a.len_of a.chars line.end - char_index a.len_of a.chars line.start
  long = grind (arith, length-line, length-per_char, ends)

  pub shown-runs : (runs : List Run) → runs ≡ visual_runs line.start shown → AreRunsOfChars a.len_of a.chars line.start shown → AreRunsOfLine a level line runs
  shown-runs runs e cut =
      let is = e ∙ ap (visual_runs line.start) levels.units in
      let visual = AreVisualRuns-from_same line.start _ runs is in
      let lines : All (λ (r : Run). IsLine a.len_of a.chars r.0 r.1) runs = subst (All (λ (r : Run). IsLine a.len_of a.chars r.0 r.1)) (sym e) cut in
      let long = ap length levels.units in
      record {
        runs = is;
        visual = visual;
        parts = λ k d fits.
            let run = visual.are_runs k d fits in
            record {
              begins = run.starts_within;
              not_empty = run.not_empty;
              ends = omega (arith, run.ends_within, long, levels.one_per_unit, is_line.ordered);
              is_line = lines k d fits;
            };
      }

  pub shown-has_rtl : has_rtl shown ≡ has_rtl (line_levels_per_char a level line)
  shown-has_rtl =
      ap has_rtl levels.characters
      ∙ list_any-per_unit is_odd a.len_of some (subrange a.len_of a.chars line.start line.end) (line_levels_per_char a level line)
      (grind (arith, long, length-part a.chars, ends))

  pub shown-stays : (odd : _) → odd ≡ has_rtl shown → IsTrue (not odd) ↔ StaysInOrder a level line
  shown-stays odd e = grind (arith, shown-has_rtl)

  -- its runs, written one after the other, are its text
  pub shown-text : (encode : ℕ → List ℕ) (units : List ℕ) → length units ≡ text_len a.len_of a.chars
      → IsTextOfLine encode units a level line (visual_units a.len_of encode a.chars units line.start shown)
  unfolding line_text
  shown-text encode units same =
      let is = text-at a.len_of some encode a.chars units (line_levels_per_char a level line) shown _ _ line.start line.end ends.ordered ends.within same long ends.begins ends.ends levels.characters in
      record { text = is; empty = λ e. is ∙ line_text-empty a.len_of encode a.chars units level _ _ line.start line.end e }

-- the runs of a line of a text with stored classes and levels
module _ (len_of : ℕ → ℕ) (some : HasUnits len_of) (chars : List ℕ) (level : ℕ) (classes : List BidiClass) (levels : List ℕ) (line : Range ℕ)
    (of_classes : IsTrue (is_per_char class_eq len_of chars classes)) (of_levels : IsTrue (is_per_char level_eq len_of chars levels)) (is_line : IsLine len_of chars line.start line.end) where
  pub stored-runs : (runs : List Run) → runs ≡ visual_runs line.start (levels_of_line level classes levels line.start line.end)
      → AreRunsOfLine (record { len_of = len_of; chars = chars; classes = classes; levels = levels }) level line runs
  stored-runs runs e =
      let shown : List ℕ = levels_of_line level classes levels line.start line.end in
      shown-runs (record { len_of = len_of; chars = chars; classes = classes; levels = levels }) some level line is_line shown
      (stored-levels len_of some chars level classes levels line of_classes of_levels is_line shown refl) runs e
      (stored-runs_of_chars len_of some chars level classes levels line of_classes of_levels is_line shown refl)
