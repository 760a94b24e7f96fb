-- The reordered text of a line within a text: its runs are parts of the text.
use Rattle.bidi_base.proofs.Common.{◌≡◌, ℕ, ◌+◌, ◌-◌, ◌≤◌, List, flat_map, length, get_or, sym, ◌∙◌, arith, flat_map-map, same_number_lists, unit_index, per_unit, Run, visual_runs, reordered_text}
use Rattle.bidi_base.proofs.Common.{run_text_in, IsLevelRun, slice_range, run_text}
use Rattle.bidi_base.proofs.TextLemmas.{HasUnits}
use Rattle.bidi_base.proofs.UnitIndexLemmas.{unit_index-mono, unit_index-slice_range, char_index-unit_index}
use Rattle.bidi_laws.proofs.OrderLemmas.{get_or-slice_range, length-slice_range}
use Rattle.bidi_lines.proofs.VisualRuns.{visual_runs-are}
use Rattle.bidi_lines.proofs.CharRuns.{units_of, place_from, visual_runs-units}
use Rattle.bidi_lines.proofs.RunText.{reordered_text-runs, flat_map-same_on}

-- a part of a part
pub slice_range-slice_range : (xs : List ℕ) (i j a b : ℕ) → a ≤ b → i + b ≤ j → j ≤ length xs → slice_range (slice_range xs i j) a b ≡ slice_range xs (i + a) (i + b)
slice_range-slice_range xs i j a b up fits within = grind (arith, same_number_lists, get_or-slice_range, length-slice_range)

-- the place of a character of the line in the text
pub unit_index-line : (len_of : ℕ → ℕ) (chars : List ℕ) (i j k : ℕ) → i + k ≤ j → j ≤ length chars
    → place_from (unit_index len_of chars i) len_of (slice_range chars i j) k ≡ unit_index len_of chars (i + k)
unit_index-line len_of chars i j k fits within = sym (unit_index-slice_range len_of chars i j k fits within)

-- The text of the line's visual runs, each read in the whole text. The line goes from the character i up to the character j.
pub reordered_text-line : (len_of : ℕ → ℕ) → HasUnits len_of → (encode : ℕ → List ℕ) (chars units levels : List ℕ) (i j : ℕ) → i ≤ j
    → j ≤ length chars → length units ≡ unit_index len_of chars (length chars) → length levels ≡ j - i
    → reordered_text len_of encode (slice_range chars i j) (slice_range units (unit_index len_of chars i) (unit_index len_of chars j)) levels
    ≡ flat_map (run_text_in len_of encode chars units (unit_index len_of chars i) (per_unit len_of (slice_range chars i j) levels)) (visual_runs (unit_index len_of chars i) (per_unit len_of (slice_range chars i j) levels))
reordered_text-line len_of some encode chars units levels i j up within long same =
    let runs = visual_runs-are 0 levels in
    let whole = reordered_text-runs len_of some encode (slice_range chars i j) (slice_range units (unit_index len_of chars i) (unit_index len_of chars j)) levels as_long (unit_index len_of chars i) in
    simp (whole, visual_runs-units (unit_index len_of chars i) len_of some (slice_range chars i j) levels as_long, flat_map-map)
    (flat_map-same_on _ _ (visual_runs 0 levels) (λ k d fits. one (get_or (visual_runs 0 levels) k d) (runs.are_runs k d fits)))
  where
    as_long : length levels ≡ length (slice_range chars i j)
    as_long = same ∙ sym (length-slice_range chars i j within)

    one : (r : Run) → IsLevelRun 0 levels r
        → run_text len_of encode (slice_range chars i j) (slice_range units (unit_index len_of chars i) (unit_index len_of chars j)) (unit_index len_of chars i) (per_unit len_of (slice_range chars i j) levels) (units_of (place_from (unit_index len_of chars i) len_of (slice_range chars i j)) r)
        ≡ run_text_in len_of encode chars units (unit_index len_of chars i) (per_unit len_of (slice_range chars i j) levels) (units_of (place_from (unit_index len_of chars i) len_of (slice_range chars i j)) r)
    one r h =
        let inside : i + r.1 ≤ j = omega (arith, h.ends_within) in
        let long_line = length-slice_range chars i j within in
        let low = unit_index-line len_of chars i j r.0 (omega arith) within in
        let high = unit_index-line len_of chars i j r.1 inside within in
        let first : unit_index len_of chars (i + r.0) - unit_index len_of chars i ≡ unit_index len_of (slice_range chars i j) r.0 = omega (arith, low) in
        let last : unit_index len_of chars (i + r.1) - unit_index len_of chars i ≡ unit_index len_of (slice_range chars i j) r.1 = omega (arith, high) in
        let up = unit_index-mono len_of chars (i + r.0) (i + r.1) (omega arith) in
        let own = λ (k : ℕ) (fits : k ≤ j - i). char_index-unit_index len_of (slice_range chars i j) some k (omega (arith, fits, long_line)) in
        let all = λ (k : ℕ) (fits : k ≤ j - i). char_index-unit_index len_of chars some (i + k) (omega (arith, fits, up, within)) in
        let of_chars = slice_range-slice_range chars i j r.0 r.1 (omega arith) inside within in
        let of_units = slice_range-slice_range units (unit_index len_of chars i) (unit_index len_of chars j) (unit_index len_of (slice_range chars i j) r.0) (unit_index len_of (slice_range chars i j) r.1)
        (omega (arith, low, high, up)) (omega (arith, high, unit_index-mono len_of chars (i + r.1) j inside)) (omega (arith, long, unit_index-mono len_of chars j (length chars) within)) in
        simp (low, high, first, last, own r.0 (omega arith), own r.1 (omega arith), all r.0 (omega arith), all r.1 (omega arith), of_chars, of_units)
