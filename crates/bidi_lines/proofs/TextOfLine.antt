-- A line of a text with one class and one level for each code unit, equal within each character: its levels, its
-- runs and its text are those of its characters.
use Rattle.bidi_base.proofs.Common.{◌≡◌, ℕ, ◌+◌, ◌-◌, ◌<◌, ◌≤◌, List, [], length, get_or, map, flat_map, sym, ap, ◌∙◌, arith, false, slice_range, Range, get_or-map, length-map, Run, run_of}
use Rattle.bidi_base.proofs.Common.{run_text_in, visual_runs, reordered_text, line_text, IsLevelRun, AreVisualRuns, is_odd, has_rtl, line_levels, line_levels_after, levels_of_line}
use Rattle.bidi_base.proofs.Common.{levels_with_line, visual_order, text_len, char_index, subrange, per_unit, per_char, IsLine, IsPerChar, char_levels_of_line, char_levels_with_line, All}
use Rattle.bidi_base.specs.declared.char_data.BidiClass.{BidiClass}
use Rattle.bidi_base.specs.declared.char_data.BidiClass.TheVariants.{L}
use Rattle.bidi_base.proofs.TextLemmas.{HasUnits}
use Rattle.bidi_base.proofs.UnitIndexLemmas.{unit_index-le, unit_index-end, unit_index-slice_range, line_unit_indexes, text_len-subrange, IsLineAt, IsLine-unit_indexes}
use Rattle.bidi_base.proofs.PerUnit.{length-per_char, per_char-per_unit}
use Rattle.bidi_base.proofs.UnitsLemmas.{per_unit-from_IsPerChar, length-from_IsPerChar}
use Rattle.bidi_lines.proofs.CharRuns.{units_of, place_from, visual_runs-units}
use Rattle.bidi_lines.proofs.LineInText.{length-part, length-line, length-levels_with_line}
use Rattle.bidi_lines.proofs.LineUnits.{slice_range-per_unit, line_levels-per_unit, levels_with_line-per_unit, list_any-per_unit}
use Rattle.bidi_lines.proofs.LineText.{reordered_text-line}
use Rattle.bidi_lines.proofs.Ordered.{none_odd}
use Rattle.bidi_lines.proofs.RunText.{reordered_text-still}
use Rattle.bidi_lines.proofs.VisualRuns.{visual_runs-are}

-- an empty line has no text
pub line_text-empty : (len_of : ℕ → ℕ) (encode : ℕ → List ℕ) (chars units : List ℕ) (level : ℕ) (classes : List BidiClass) (levels : List ℕ) (start end : ℕ) → start ≡ end
    → line_text len_of encode chars units level classes levels start end ≡ []
unfolding line_text line_levels line_levels_after reordered_text visual_order
line_text-empty len_of encode chars units level classes levels start end same = grind arith

-- each run is a level run, where it begins
pub runs_begin : (start : ℕ) (levels : List ℕ) (ranges : List (Range ℕ)) → AreVisualRuns start levels (map run_of ranges)
    → All (λ r. (start ≤ r.start) × (r.start < start + length levels)) ranges
runs_begin start levels ranges h k d fits = grind (arith, get_or-map run_of ranges k d (0, 0), length-map, h.are_runs k (0, 0))

-- the text of `len_of` and `chars`, and one class and one level for each code unit
module _ (len_of : ℕ → ℕ) (h : HasUnits len_of) (chars : List ℕ) (level : ℕ) (classes : List BidiClass) (levels : List ℕ) (start end : ℕ)
    (of_classes : IsPerChar len_of chars classes) (of_levels : IsPerChar len_of chars levels) (line : IsLine len_of chars start end) where
  ends : IsLineAt len_of chars start end (char_index len_of chars start) (char_index len_of chars end)
  ends = line_unit_indexes len_of h chars start end line

  pub line-same_len : length levels ≡ length classes
  line-same_len = length-from_IsPerChar len_of chars levels of_levels ∙ sym (length-from_IsPerChar len_of chars classes of_classes)

  pub line-within : end ≤ length levels
  line-within = grind (arith, ends, unit_index-le, length-from_IsPerChar)

  pub length-levels_of_line : length (levels_of_line level classes levels start end) ≡ end - start
  length-levels_of_line = length-line level classes levels start end line-same_len line.ordered line-within

  -- the levels of the line's characters
  abbrev of_chars : List ℕ
  of_chars = levels_of_line level (per_char L len_of chars classes) (per_char 0 len_of chars levels) (char_index len_of chars start) (char_index len_of chars end)

  part_long : {X : Type 0} (values : List X) → length values ≡ length chars
      → length (slice_range values (char_index len_of chars start) (char_index len_of chars end)) ≡ length (subrange len_of chars start end)
  part_long values e = grind (arith, length-part, ends)

  length-of_chars : length of_chars ≡ char_index len_of chars end - char_index len_of chars start
  length-of_chars = grind (arith, length-line, length-per_char, ends)

  -- L1 on the line's units is L1 on its characters
  pub levels_of_line-per_unit : levels_of_line level classes levels start end
      ≡ per_unit len_of (subrange len_of chars start end) (levels_of_line level (per_char L len_of chars classes) (per_char 0 len_of chars levels) (char_index len_of chars start) (char_index len_of chars end))
  levels_of_line-per_unit =
      let i = char_index len_of chars start in
      let j = char_index len_of chars end in
      let c_long = length-per_char L len_of chars classes in
      let l_long = length-per_char 0 len_of chars levels in
      cc (
        per_unit-from_IsPerChar L len_of h chars classes of_classes,
        per_unit-from_IsPerChar 0 len_of h chars levels of_levels,
        ends.begins,
        ends.ends,
        slice_range-per_unit len_of chars (per_char L len_of chars classes) i j ends.ordered ends.within c_long,
        slice_range-per_unit len_of chars (per_char 0 len_of chars levels) i j ends.ordered ends.within l_long,
        line_levels-per_unit len_of h level
            (subrange len_of chars start end) _ _ (part_long (per_char L len_of chars classes) c_long) (part_long (per_char 0 len_of chars levels) l_long),
      )

  of_chars_long : length of_chars ≡ length (subrange len_of chars start end)
  of_chars_long = grind (arith, length-of_chars, length-part, ends)

  -- the ends of the runs cut no character
  pub visual_runs_at_boundaries : All (λ (r : Run). IsLine len_of chars r.0 r.1) (visual_runs start (levels_of_line level classes levels start end))
  visual_runs_at_boundaries k d fits =
      let P : ℕ → ℕ = place_from start len_of (subrange len_of chars start end) in
      let same : visual_runs start (levels_of_line level classes levels start end) ≡ map (units_of P) (visual_runs 0 of_chars) =
      ap (visual_runs start) levels_of_line-per_unit ∙ visual_runs-units start len_of h (subrange len_of chars start end) of_chars of_chars_long in
      let inside : k < length (visual_runs 0 of_chars) = omega (arith, fits, ap length same, length-map (visual_runs 0 of_chars) (units_of P)) in
      let r : Run = get_or (visual_runs 0 of_chars) k (0, 0) in
      let here : IsLevelRun 0 of_chars r = (visual_runs-are 0 of_chars).are_runs k (0, 0) inside in
      let there : get_or (visual_runs start (levels_of_line level classes levels start end)) k d ≡ units_of P r =
      ap (λ runs. get_or runs k d) same ∙ get_or-map (units_of P) (visual_runs 0 of_chars) k (0, 0) d inside in
      let at = λ (n : ℕ). unit_index-slice_range len_of chars (char_index len_of chars start) (char_index len_of chars end) n in
      let line = IsLine-unit_indexes len_of chars (char_index len_of chars start + r.0) (char_index len_of chars start + r.1) (omega (arith, here.not_empty)) in
      grind (arith, there, at r.0, at r.1, here, length-of_chars, ends, line)

  -- the runs, written one after the other, are the text of the line
  pub flat_map-runs : (encode : ℕ → List ℕ) (units : List ℕ) (runs : List Run) → length units ≡ text_len len_of chars → runs ≡ visual_runs start (levels_of_line level classes levels start end)
      → flat_map (run_text_in len_of encode chars units start (levels_of_line level classes levels start end)) runs
      ≡ line_text len_of encode chars units level (per_char L len_of chars classes) (per_char 0 len_of chars levels) start end
  unfolding line_text
  flat_map-runs encode units runs long e = grind (arith, levels_of_line-per_unit, ends, reordered_text-line, unit_index-end, length-of_chars)

  -- where no level is odd the text stays as it is
  pub line_text-still : (encode : ℕ → List ℕ) (units : List ℕ) → length units ≡ text_len len_of chars → has_rtl (levels_of_line level classes levels start end) ≡ false
      → line_text len_of encode chars units level (per_char L len_of chars classes) (per_char 0 len_of chars levels) start end ≡ slice_range units start end
  unfolding line_text
  line_text-still encode units long even =
      grind (
        arith,
        reordered_text-still len_of encode (subrange len_of chars start end) (slice_range units start end) of_chars of_chars_long,
        none_odd of_chars,
        levels_of_line-per_unit,
        list_any-per_unit is_odd len_of h (subrange len_of chars start end) of_chars of_chars_long,
        length-part units start end,
        text_len-subrange len_of h chars start end line,
        line-within,
        length-from_IsPerChar len_of chars levels of_levels,
      )

  -- the levels of all units, those of the line after L1, are those of their characters
  pub levels_with_line-chars : levels_with_line level classes levels start end ≡ per_unit len_of chars (char_levels_with_line len_of chars level classes levels start end)
  levels_with_line-chars =
      let by_chars = levels_with_line-per_unit len_of h level chars _ _ start end (length-per_char L len_of chars classes) (length-per_char 0 len_of chars levels) line in
      cc (per_unit-from_IsPerChar L len_of h chars classes of_classes, per_unit-from_IsPerChar 0 len_of h chars levels of_levels, by_chars)

  pub per_char-levels_with_line : per_char 0 len_of chars (levels_with_line level classes levels start end) ≡ char_levels_with_line len_of chars level classes levels start end
  per_char-levels_with_line =
      grind (arith, levels_with_line-chars, per_char-per_unit len_of h 0 chars (char_levels_with_line len_of chars level classes levels start end), length-levels_with_line, length-per_char, ends)

  -- a unit of the line has an odd level just where a character has
  pub has_rtl-chars : has_rtl (levels_of_line level classes levels start end) ≡ has_rtl (char_levels_of_line len_of chars level classes levels start end)
  has_rtl-chars = grind (arith, levels_of_line-per_unit, list_any-per_unit, of_chars_long)
