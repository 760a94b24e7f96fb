-- A line without an odd level shows its characters in order.
use Rattle.bidi_base.proofs.Common.{◌≡◌, ℕ, ◌+◌, ◌-◌, ◌<◌, false, List, [], ◌∷◌, length, get_or, flat_map, encode_utf8, ap, arith, list_any_none, map, length-map}
use Rattle.bidi_base.proofs.Common.{get_or-map, flat_map-append, has_rtl, is_odd, Run, run_level, level_runs, slice_range, take_all, list_any, ◌==◌}
use Rattle.bidi_lines.proofs.Ordered.{none_odd}
use Rattle.bidi_lines.proofs.RunsLemmas.{Follow, level_runs-follow, level_runs-each}
use Rattle.bidi_lines.proofs.FoundRuns.{visual_runs-still}
use Rattle.bidi_lines.proofs.RunText.{flat_map-same_on}
use Rattle.bidi_shown.specs.Plain.{plain_line, run_at, tabbed_line}
use Rattle.bidi_shown.proofs.TabLemmas.{spread-none, spread_values-none}
use Rattle.bidi_lines.proofs.StillLine.{follow-up, slice_range-joined}

-- parts that follow one another from a up to b
parts-joined : (chars : List ℕ) (a b : ℕ) (runs : List Run) → Follow a b runs
    → flat_map (λ (r : Run). flat_map encode_utf8 (slice_range chars r.0 r.1)) runs ≡ flat_map encode_utf8 (slice_range chars a b)
parts-joined chars a b [] e =
    let none : b - a ≡ 0 = omega (arith, e) in simp (none)
parts-joined chars a b (run ∷ runs) h =
    let up = follow-up run.1 b runs h.2 in
    let first : flat_map (λ (r : Run). flat_map encode_utf8 (slice_range chars r.0 r.1)) runs ≡ flat_map encode_utf8 (slice_range chars run.1 b) = parts-joined chars run.1 b runs h.2 in
    simp (first, h.0, ← (slice_range-joined chars a run.1 b (omega (arith, h.0, h.1)) up), flat_map-append)

module _ (chars levels : List ℕ) (same : length levels ≡ length chars) (even : has_rtl levels ≡ false) where
  unit_even : (u : ℕ) → u < length levels → is_odd (get_or levels u 0) ≡ false
  unit_even u fits = grind (arith, none_odd levels even u fits)

  run_even : (k : ℕ) (d : Run) → k < length (level_runs 0 levels) → is_odd (run_level 0 levels (get_or (level_runs 0 levels) k d)) ≡ false
  run_even k d fits =
      let here = level_runs-each 0 levels k d fits in
      unit_even ((get_or (level_runs 0 levels) k d).0 - 0) (omega (arith, here.starts_within, here.not_empty, here.ends_within))

  levels_even : has_rtl (map (run_level 0 levels) (level_runs 0 levels)) ≡ false
  levels_even = list_any_none is_odd (map (run_level 0 levels) (level_runs 0 levels)) (λ k d fits. even_at k d (omega (arith, fits, length-map (level_runs 0 levels) (run_level 0 levels))))
    where
      even_at : (k d : ℕ) → k < length (level_runs 0 levels) → is_odd (get_or (map (run_level 0 levels) (level_runs 0 levels)) k d) ≡ false
      even_at k d fits = simp (get_or-map (run_level 0 levels) (level_runs 0 levels) k (0, 0) d fits, run_even k (0, 0) fits)

  pub plain_line-even : plain_line chars levels ≡ flat_map encode_utf8 chars
  unfolding plain_line
  plain_line-even =
      simp (
        ← visual_runs-still 0 levels levels_even,
        flat_map-same_on (run_at chars levels) (λ (r : Run). flat_map encode_utf8 (slice_range chars r.0 r.1)) (level_runs 0 levels) (λ k d fits. simp (run_even k d fits)),
        parts-joined chars 0 (0 + length levels) (level_runs 0 levels) (level_runs-follow 0 levels),
      )
      (ap (flat_map encode_utf8) (whole (0 + length levels) (omega arith)))
    where
      whole : (n : ℕ) → n ≡ length chars → slice_range chars 0 n ≡ chars
      whole n all = take_all (n - 0) chars (omega arith)

-- without a tab too it is its text
pub tabbed_line-even : (chars levels : List ℕ) → length levels ≡ length chars → has_rtl levels ≡ false → list_any (λ c. c == 0x09) chars ≡ false
    → tabbed_line chars levels ≡ flat_map encode_utf8 chars
unfolding tabbed_line
tabbed_line-even chars levels same even none =
    simp (spread-none 0 chars none, spread_values-none 0 chars levels none same) (plain_line-even chars levels same even)

-- without a tab it is the line
pub tabbed_line-none : (chars levels : List ℕ) → length levels ≡ length chars → list_any (λ c. c == 0x09) chars ≡ false
    → tabbed_line chars levels ≡ plain_line chars levels
unfolding tabbed_line
tabbed_line-none chars levels same none = simp (spread-none 0 chars none, spread_values-none 0 chars levels none same)
