-- The level runs of a range in the order of the text.
use Rattle.bidi_base.proofs.Common.{◌≡◌, ◌≢◌, ℕ, suc, ◌+◌, ◌-◌, ◌<◌, ◌≤◌, Bool, true, false, not, eqb, nat_tests, get_or_default, List, [], ◌∷◌, ◌++◌, length, get_or, map, drop, inl, inr, cases_lt, refl, sym, ap, subst, ◌∙◌, arith, eq-eqb, ne_eqb, append_assoc, drop-cons, drop_all, nil_from_length, slice_range, Range, get_or-map, length-map}
use Rattle.bidi_base.proofs.Common.{text_len, is_boundary, char_index, IsTrue, is_per_char, IsPerChar, All, Run, AnalysedText, run_of, level_runs_from, level_runs, IsLevelRun}
use Rattle.bidi_base.specs.AnalysedText.{IsLineOf, IsPartOfLine}
use Rattle.bidi_base.proofs.TextLemmas.{HasUnits}
use Rattle.bidi_base.proofs.UnitIndexLemmas.{line_unit_indexes, unit_index-le}
use Rattle.bidi_base.proofs.UnitsLemmas.{length-from_IsPerChar}
use Rattle.bidi_laws.proofs.OrderLemmas.{get_or-slice_range}
use Rattle.bidi_text.proofs.PerCharTests.{level_eq}
use Rattle.bidi_lines.proofs.LineInText.{length-part}
use Rattle.bidi_lines.proofs.RunsLemmas.{level_runs-each}
use Rattle.bidi_lines.proofs.StoredLine.{levels_IsPerChar}
use Rattle.unicode_bidi.proofs.UnitChanges.{boundary-at_change}

-- ---- the loop over the levels

-- the runs up to `begun` are found, and all levels from there up to `at` are equal
pub record FoundUpTo (start : ℕ) (levels : List ℕ) (begun at : ℕ) (runs : List Run) : Type 0 where
  pub order : begun < at
  pub all : 0 < length levels → runs ++ level_runs_from (start + begun) (start + at) (get_or levels (at - 1) 0) (drop at levels) ≡ level_runs start levels
  pub none : length levels ≡ 0 → runs ≡ []

pub found-at_first : (start : ℕ) (levels : List ℕ) → FoundUpTo start levels 0 1 []
found-at_first start [] = record { order = omega arith; all = λ some. absurd (omega arith); none = λ e. refl }
found-at_first start (level ∷ levels) =
    let e : start + 0 ≡ start = omega arith in
    record { order = omega arith; all = λ some. rw e refl; none = λ e. absurd (omega arith) }

module _ (start : ℕ) (levels : List ℕ) (begun at : ℕ) (runs : List Run) (h : FoundUpTo start levels begun at runs) (fits : at < length levels) where
  here : drop at levels ≡ get_or levels at 0 ∷ drop (at + 1) levels
  here = let e : at + 1 ≡ suc at = omega arith in rw e (drop-cons levels at 0 fits)

  step : start + at + 1 ≡ start + (at + 1)
  step = omega arith

  at_last : at + 1 - 1 ≡ at
  at_last = omega arith

  -- the run goes on
  found-same : get_or levels at 0 ≡ get_or levels (at - 1) 0 → FoundUpTo start levels begun (at + 1) runs
  found-same same = record {
    order = omega (arith, h.order);
    all = λ some.
        let all = h.all some in
        let e : level_runs_from (start + begun) (start + at) (get_or levels (at - 1) 0) (drop at levels)
        ≡ level_runs_from (start + begun) (start + (at + 1)) (get_or levels (at + 1 - 1) 0) (drop (at + 1) levels) =
        rw (here, at_last) (rw (eq-eqb _ _ same, step, same) refl) in
        ap (λ rest. runs ++ rest) (sym e) ∙ all;
    none = h.none;
  }

  -- a run ends, and one begins
  found-other : get_or levels at 0 ≢ get_or levels (at - 1) 0 → FoundUpTo start levels at (at + 1) (runs ++ (start + begun, start + at) ∷ [])
  found-other other = record {
    order = omega arith;
    all = λ some.
        let all = h.all some in
        let e : level_runs_from (start + begun) (start + at) (get_or levels (at - 1) 0) (drop at levels)
        ≡ (start + begun, start + at) ∷ level_runs_from (start + at) (start + (at + 1)) (get_or levels (at + 1 - 1) 0) (drop (at + 1) levels) =
        rw (here, at_last) (rw (ne_eqb _ _ other, step) refl) in
        append_assoc runs _ _ ∙ ap (λ rest. runs ++ rest) (sym e) ∙ all;
    none = λ e. absurd (omega arith);
  }

-- what the loop tests
module _ (start : ℕ) (levels : List ℕ) (begun at : ℕ) (runs : List Run) (h : FoundUpTo start levels begun at runs) (fits : at < length levels)
    (here before : ℕ) (is_here : here ≡ get_or levels at here) (is_before : before ≡ get_or levels (at - 1) before) (differs : Bool) (tested : differs ≡ not (eqb here before))
    (begun_after : ℕ) (runs_after : List Run) where
  level_here : get_or levels at 0 ≡ here
  level_here = get_or_default levels at 0 here fits ∙ sym is_here

  level_before : get_or levels (at - 1) 0 ≡ before
  level_before = get_or_default levels (at - 1) 0 before (omega arith) ∙ sym is_before

  pub found-if_same : differs ≡ false → begun_after ≡ begun → runs_after ≡ runs → FoundUpTo start levels begun_after (at + 1) runs_after
  found-if_same e b r =
      let same : here ≡ before = grind (arith, nat_tests) in
      rw (b, r) (found-same start levels begun at runs h fits (level_here ∙ same ∙ sym level_before))

  pub found-if_other : differs ≡ true → begun_after ≡ at → runs_after ≡ runs ++ (start + begun, start + at) ∷ [] → FoundUpTo start levels begun_after (at + 1) runs_after
  found-if_other e b r =
      let other : here ≢ before = grind (arith, nat_tests) in
      rw (b, r) (found-other start levels begun at runs h fits (λ same. other (sym level_here ∙ same ∙ level_before)))

-- at the end the last run is open
pub found-all : (start : ℕ) (levels : List ℕ) (begun at : ℕ) (runs : List Run) → FoundUpTo start levels begun at runs → 0 < length levels → length levels ≤ at → at ≤ length levels
    → runs ++ (start + begun, start + length levels) ∷ [] ≡ level_runs start levels
found-all start levels begun at runs h some past within =
    let same : at ≡ length levels = omega arith in
    let end : level_runs_from (start + begun) (start + at) (get_or levels (at - 1) 0) (drop at levels) ≡ (start + begun, start + length levels) ∷ [] =
    rw (drop_all at levels past, same) refl in
    ap (λ rest. runs ++ rest) (sym end) ∙ h.all some

pub found-none : (start : ℕ) (levels : List ℕ) (begun at : ℕ) (runs : List Run) → FoundUpTo start levels begun at runs → length levels ≡ 0 → runs ≡ level_runs start levels
found-none start levels begun at runs h empty = h.none empty ∙ sym (ap (level_runs start) (nil_from_length levels empty))

-- ---- each run is a part of the range

get_or-part : (levels : List ℕ) (start end u : ℕ) → start ≤ u → u < end → get_or (slice_range levels start end) (u - start) 0 ≡ get_or levels u 0
get_or-part levels start end u from below =
    let place : start + (u - start) ≡ u = omega arith in
    get_or-slice_range levels start end (u - start) (omega arith) ∙ ap (λ k. get_or levels k 0) place

module _ (a : AnalysedText) (some : HasUnits a.len_of) (of_levels : IsTrue (is_per_char level_eq a.len_of a.chars a.levels)) (range : Range ℕ) (line : IsLineOf a range) where
  levels : IsPerChar a.len_of a.chars a.levels
  levels = levels_IsPerChar a.len_of some a.chars a.levels of_levels

  within : range.end ≤ text_len a.len_of a.chars
  within = grind (arith, line_unit_indexes a.len_of some a.chars range.start range.end line, unit_index-le a.len_of a.chars (char_index a.len_of a.chars range.end))

  pub levels-reach : range.end ≤ length a.levels
  levels-reach = omega (arith, within, length-from_IsPerChar a.len_of a.chars a.levels levels)

  long : length (slice_range a.levels range.start range.end) ≡ range.end - range.start
  long = length-part a.levels range.start range.end levels-reach

  -- a unit in the range with another level than the unit before it
  changes : (u v : ℕ) → v + 1 ≡ u → range.start ≤ v → u < range.end
      → get_or (slice_range a.levels range.start range.end) (v - range.start) 0 ≢ get_or (slice_range a.levels range.start range.end) (u - range.start) 0
      → is_boundary a.len_of a.chars u ≡ true
  changes u v next from below differ =
      let at_u = get_or-part a.levels range.start range.end u (omega arith) below in
      let at_v = get_or-part a.levels range.start range.end v from (omega arith) in
      boundary-at_change a.len_of a.chars a.levels levels u v 0 next (omega (arith, within)) (λ e. differ (at_v ∙ e ∙ sym at_u))

  run-is_part : (run : Run) → IsLevelRun range.start (slice_range a.levels range.start range.end) run → IsPartOfLine a range run
  run-is_part run h =
      let ends : run.1 ≤ range.end = omega (arith, h.ends_within, long, line.ordered) in
      record {
        begins = h.starts_within;
        not_empty = h.not_empty;
        ends = ends;
        is_line = record {
          ordered = omega (arith, h.not_empty);
          begins = elim (cases_lt range.start run.0) [
            | inl later ↦
                changes run.0 (run.0 - 1) (omega arith) (omega arith) (omega (arith, h.not_empty))
                (h.before (run.0 - 1) (omega arith) (omega arith) (omega (arith, long, h.not_empty)))
            | inr first ↦ let same : run.0 ≡ range.start = omega (arith, h.starts_within) in rw same line.begins
          ];
          ends = elim (cases_lt run.1 range.end) [
            | inl inside ↦
                let equal = h.equal (run.1 - 1) (omega (arith, h.not_empty)) (omega (arith, h.not_empty)) in
                let other = h.after (omega (arith, h.not_empty, h.starts_within)) (omega (arith, long)) in
                changes run.1 (run.1 - 1) (omega (arith, h.not_empty)) (omega (arith, h.not_empty, h.starts_within)) inside
                (λ e. other (sym e ∙ equal))
            | inr all ↦ let same : run.1 ≡ range.end = omega arith in rw same line.ends
          ];
        };
      }

  pub runs-are_parts : (runs : List (Range ℕ)) → map run_of runs ≡ level_runs range.start (slice_range a.levels range.start range.end) → All (λ r. IsPartOfLine a range (run_of r)) runs
  runs-are_parts runs is k d fits =
      let each = subst (All (IsLevelRun range.start (slice_range a.levels range.start range.end))) (sym is) (level_runs-each range.start (slice_range a.levels range.start range.end)) in
      subst (IsPartOfLine a range) (get_or-map run_of runs k d (run_of d) fits)
      (run-is_part _ (each k (run_of d) (omega (arith, fits, length-map runs run_of))))
