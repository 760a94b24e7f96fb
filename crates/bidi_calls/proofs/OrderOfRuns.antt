-- The order of a line's characters, from the visual runs of its units.
use Rattle.bidi_base.proofs.Common.{◌≡◌, ℕ, ◌+◌, ◌-◌, ◌<◌, ◌≤◌, Bool, List, length, length-reverse, get_or, subst, Range, run_of, map, flat_map, reverse, if◌then◌else◌, refl, sym, ap, ◌∙◌, arith}
use Rattle.bidi_base.proofs.Common.{map-id, le_refl, length-take-le, slice_range, take, take_all, get_or-map, length-map, flat_map-map, zero-add, between, is_odd, true, is_boundary, char_index}
use Rattle.bidi_base.proofs.Common.{unit_index, subrange, per_char, per_unit, text_len, IsLine, IsPerChar, Run, run_level, visual_order, visual_runs, written_run, written_runs, IsLevelRun}
use Rattle.bidi_base.proofs.Common.{AreVisualRuns, All, sum_by_more}
use Rattle.std.proofs.lemmas.List.Concat.{length-flat_map}
use Rattle.std.proofs.lemmas.List.Folds.{length-flat_map-take}
use Rattle.bidi_base.proofs.PerUnit.{length-per_char}
use Rattle.bidi_base.proofs.UnitIndexLemmas.{unit_index-zero, unit_index-end, unit_index-sum, is_boundary-unit_index, char_index-le, char_index-unit_index, unit_index-char_index, IsLine-unit_indexes, line_unit_indexes}
use Rattle.bidi_base.proofs.TextLemmas.{HasUnits, length-le-text_len}
use Rattle.bidi_base.proofs.UnitsLemmas.{per_unit-from_IsPerChar}
use Rattle.bidi_lines.proofs.LineInText.{length-part}
use Rattle.bidi_lines.proofs.Pieces.{length-between}
use Rattle.bidi_lines.proofs.VisualRuns.{visual_runs-are}
use Rattle.bidi_lines.proofs.CharRuns.{units_of, place_from, run_level-units, visual_runs-units}
use Rattle.bidi_lines.proofs.RunLengths.{length-visual_order}
use Rattle.bidi_lines.proofs.RunText.{flat_map-same_on}
use Rattle.bidi_lines.proofs.WrittenRuns.{ranges_at_boundaries}
use Rattle.bidi_calls.proofs.RunStructs.{runs_within}

-- the indexes of a run's characters from left to right
abbrev pub run_indexes : (ℕ → ℕ) → List ℕ → List ℕ → Run → List ℕ
run_indexes len_of chars levels run =
    let own = between (char_index len_of chars run.0) (char_index len_of chars run.1) in
    if is_odd (run_level 0 levels run) then reverse own else own

same_indexes : (x y a b c d : ℕ) → x ≡ y → a ≡ c → b ≡ d → (if is_odd x then reverse (between a b) else between a b) ≡ (if is_odd y then reverse (between c d) else between c d)
same_indexes x y a b c d e f g = simp (e, f, g) refl

module _ (len_of : ℕ → ℕ) (some : HasUnits len_of) (chars : List ℕ) where
  -- the characters of a range
  length-subrange : (start end : ℕ) → IsLine len_of chars start end → length (subrange len_of chars start end) ≡ char_index len_of chars end - char_index len_of chars start
  length-subrange start end line = length-part chars (char_index len_of chars start) (char_index len_of chars end) (line_unit_indexes len_of some chars start end line).within

  -- the same as counted
  pub count-is : (start end n : ℕ) → IsLine len_of chars start end → n ≡ length (subrange len_of chars start end) → n ≡ char_index len_of chars end - char_index len_of chars start
  count-is start end n line e = e ∙ length-subrange start end line

  -- the characters before one end of a range, from those before the other
  pub index-after : (start end before n : ℕ) → IsLine len_of chars start end → before ≡ char_index len_of chars start
      → n ≡ length (subrange len_of chars start end) → before + n ≡ char_index len_of chars end
  index-after start end before n line e f = omega (arith, e, count-is start end n line f, (line_unit_indexes len_of some chars start end line).ordered)

  pub index-before : (start end behind n : ℕ) → IsLine len_of chars start end → behind ≡ char_index len_of chars end
      → n ≡ length (subrange len_of chars start end) → behind - n ≡ char_index len_of chars start
  index-before start end behind n line e f = omega (arith, e, count-is start end n line f, (line_unit_indexes len_of some chars start end line).ordered)

  -- no more than units
  pub char_index-le-unit : (u : ℕ) → is_boundary len_of chars u ≡ true → char_index len_of chars u ≤ u
  char_index-le-unit u e =
      let k = char_index len_of chars u in
      omega (arith, unit_index-char_index len_of some chars u e, length-le-text_len len_of some (take k chars), length-take-le k chars (char_index-le len_of chars u))

  pub char_index-zero : char_index len_of chars 0 ≡ 0
  char_index-zero = grind (arith, unit_index-zero len_of chars, char_index-unit_index len_of chars some 0)

  pub zero-boundary : is_boundary len_of chars 0 ≡ true
  zero-boundary = grind (arith, unit_index-zero len_of chars, is_boundary-unit_index len_of chars 0)

  -- where each unit is a character, the characters of a range are its units
  unit_index-plain : text_len len_of chars ≡ length chars → (k : ℕ) → k ≤ length chars → unit_index len_of chars k ≡ k
  unit_index-plain plain k fits =
      let front = length-le-text_len len_of some (take k chars) in
      let back = length-le-text_len len_of some (slice_range chars k (length chars)) in
      omega (arith, plain, front, back, length-take-le k chars fits, length-part chars k (length chars) (le_refl (length chars)), unit_index-sum len_of chars k (length chars) fits fits, unit_index-end len_of chars (length chars) (le_refl (length chars)))

  pub length-subrange-plain : text_len len_of chars ≡ length chars → (start end : ℕ) → IsLine len_of chars start end → end - start ≡ length (subrange len_of chars start end)
  length-subrange-plain plain start end line =
      let at = line_unit_indexes len_of some chars start end line in
      omega (
        arith,
        length-subrange start end line,
        at.begins,
        at.ends,
        at.ordered,
        at.within,
        unit_index-plain plain (char_index len_of chars start) (omega (arith, at.ordered, at.within)),
        unit_index-plain plain (char_index len_of chars end) at.within,
      )

  module _ (levels : List ℕ) (equal : IsPerChar len_of chars levels) where
    -- the levels of the characters
    abbrev own : List ℕ
    own = per_char 0 len_of chars levels

    own_long : length own ≡ length chars
    own_long = length-per_char 0 len_of chars levels

    own-units : levels ≡ per_unit len_of chars own
    own-units = per_unit-from_IsPerChar 0 len_of some chars levels equal

    -- the runs of the units are those of the characters
    own-runs : visual_runs 0 levels ≡ map (units_of (place_from 0 len_of chars)) (visual_runs 0 own)
    own-runs = ap (visual_runs 0) own-units ∙ visual_runs-units 0 len_of some chars own own_long

    -- so they cut no character
    pub own-boundaries : All (λ (r : Run). IsLine len_of chars r.0 r.1) (visual_runs 0 levels)
    own-boundaries k d fits =
        let P : ℕ → ℕ = place_from 0 len_of chars in
        let inside : k < length (visual_runs 0 own) = omega (arith, fits, ap length own-runs, length-map (visual_runs 0 own) (units_of P)) in
        let r : Run = get_or (visual_runs 0 own) k (0, 0) in
        let here : IsLevelRun 0 own r = (visual_runs-are 0 own).are_runs k (0, 0) inside in
        let there : get_or (visual_runs 0 levels) k d ≡ units_of P r = ap (λ runs. get_or runs k d) own-runs ∙ get_or-map (units_of P) (visual_runs 0 own) k (0, 0) d inside in
        let line = IsLine-unit_indexes len_of chars r.0 r.1 (omega (arith, here.not_empty)) in
        grind (arith, there, line, zero-add)

    -- each run is written as that of the characters
    own-run : All (λ r. run_indexes len_of chars levels (units_of (place_from 0 len_of chars) r) ≡ written_run 0 own r) (visual_runs 0 own)
    own-run k d fits =
        let r : Run = get_or (visual_runs 0 own) k d in
        let here : IsLevelRun 0 own r = (visual_runs-are 0 own).are_runs k d fits in
        let level : run_level 0 levels (units_of (place_from 0 len_of chars) r) ≡ run_level 0 own r =
        ap (λ ls. run_level 0 ls (units_of (place_from 0 len_of chars) r)) own-units ∙ run_level-units 0 len_of some chars own own_long r here in
        let begins : char_index len_of chars (place_from 0 len_of chars r.0) ≡ r.0 = simp zero-add (char_index-unit_index len_of chars some r.0 (omega (arith, here.not_empty, here.ends_within, own_long))) in
        let ends : char_index len_of chars (place_from 0 len_of chars r.1) ≡ r.1 = simp zero-add (char_index-unit_index len_of chars some r.1 (omega (arith, here.ends_within, own_long))) in
        same_indexes _ _ _ _ _ _ level begins ends

    -- all runs, one after the other
    all_run_indexes : flat_map (run_indexes len_of chars levels) (visual_runs 0 levels) ≡ visual_order own
    unfolding written_runs
    all_run_indexes =
        ap (flat_map (run_indexes len_of chars levels)) own-runs
        ∙ flat_map-map (run_indexes len_of chars levels) (units_of (place_from 0 len_of chars)) (visual_runs 0 own)
        ∙ flat_map-same_on _ (written_run 0 own) (visual_runs 0 own) own-run
        ∙ (visual_runs-are 0 own).in_order
        ∙ simp zero-add (map-id (visual_order own))

    -- the same of the ranges of the runs
    module _ (ranges : List (Range ℕ)) (e : map run_of ranges ≡ visual_runs 0 levels) where
      pub range-IsLine : All (λ r. IsLine len_of chars r.start r.end) ranges
      range-IsLine = ranges_at_boundaries len_of chars ranges (visual_runs 0 levels) e own-boundaries

      pub range-begins : All (λ r. r.start < length levels) ranges
      range-begins k d fits = (runs_within levels ranges (subst (AreVisualRuns 0 levels) (sym e) (visual_runs-are 0 levels)) k d fits).0

      -- a run has as many indexes as characters
      length-run_indexes : (run : Run) → length (run_indexes len_of chars levels run) ≡ char_index len_of chars run.1 - char_index len_of chars run.0
      length-run_indexes run = grind (arith, length-reverse, length-between)

      length-all : length (flat_map (run_indexes len_of chars levels) (map run_of ranges)) ≡ length chars
      length-all = ap (λ rs. length (flat_map (run_indexes len_of chars levels) rs)) e ∙ ap length all_run_indexes ∙ length-visual_order own ∙ own_long

      -- so there is room for one run more
      pub run-fits : (k : ℕ) (d : Range ℕ) → k < length ranges
          → length (flat_map (run_indexes len_of chars levels) (take k (map run_of ranges))) + (char_index len_of chars (get_or ranges k d).end - char_index len_of chars (get_or ranges k d).start) ≤ length chars
      run-fits k d fits =
          let more = length-flat_map-take (run_indexes len_of chars levels) (map run_of ranges) k (0, 0) (omega (arith, fits, length-map ranges run_of)) in
          grind (arith, more, length-all, get_or-map run_of ranges k d (0, 0) fits, length-run_indexes (run_of (get_or ranges k d)))

      pub run-more : (k : ℕ) (d : Range ℕ) → k < length ranges
          → length (flat_map (run_indexes len_of chars levels) (take (k + 1) (map run_of ranges)))
          ≡ length (flat_map (run_indexes len_of chars levels) (take k (map run_of ranges))) + (char_index len_of chars (get_or ranges k d).end - char_index len_of chars (get_or ranges k d).start)
      run-more k d fits =
          let f : Run → List ℕ = run_indexes len_of chars levels in
          let xs : List Run = map run_of ranges in
          let more = sum_by_more (λ run. length (f run)) xs k (0, 0) (omega (arith, fits, length-map ranges run_of)) in
          let last = ap (λ run. length (f run)) (get_or-map run_of ranges k d (0, 0) fits) ∙ length-run_indexes (run_of (get_or ranges k d)) in
          omega (arith, more, length-flat_map f (take (k + 1) xs), length-flat_map f (take k xs), last)

    -- what is written of one run
    pub run_indexes-is : (run : Range ℕ) (odd : Bool) (first count : ℕ) (new : List ℕ) → odd ≡ is_odd (run_level 0 levels (run_of run)) → first ≡ char_index len_of chars run.start
        → first + count ≡ char_index len_of chars run.end → new ≡ (if odd then reverse (between first (first + count)) else between first (first + count))
        → new ≡ run_indexes len_of chars levels (run_of run)
    run_indexes-is run odd first count new e f g is = is ∙ simp (e, ← f, g) refl

    -- all runs, as they are written
    pub all-written : (ranges : List (Range ℕ)) (k at : ℕ) (out : List ℕ) → map run_of ranges ≡ visual_runs 0 levels → length ranges ≤ k → length out ≡ length chars
        → at ≡ length (flat_map (run_indexes len_of chars levels) (take k (map run_of ranges))) → take at out ≡ flat_map (run_indexes len_of chars levels) (take k (map run_of ranges))
        → out ≡ visual_order own
    all-written ranges k at out e all long so_far written =
        let runs : take k (map run_of ranges) ≡ visual_runs 0 levels = take_all k (map run_of ranges) (omega (arith, length-map ranges run_of, all)) ∙ e in
        let whole : flat_map (run_indexes len_of chars levels) (take k (map run_of ranges)) ≡ visual_order own = ap (flat_map (run_indexes len_of chars levels)) runs ∙ all_run_indexes in
        let end : at ≡ length out = omega (arith, so_far, ap length whole, length-visual_order own, own_long, long) in
        sym (take_all at out (omega (arith, end))) ∙ written ∙ whole
