-- A line none of whose levels is odd: its runs, written one after the other, are its units.
use Rattle.bidi_base.proofs.Common.{◌≡◌, ℕ, ◌+◌, ◌-◌, ◌≤◌, ◌<◌, ◌++◌, false, List, [], ◌∷◌, drop, length, get_or, flat_map, ap, sym, ◌∙◌, arith, list_any_none, map, length-map, get_or-map}
use Rattle.bidi_base.proofs.Common.{drop-drop, has_rtl, is_odd, Run, run_level, level_runs, slice_range, take-add}
use Rattle.bidi_lines.proofs.Ordered.{none_odd}
use Rattle.bidi_lines.proofs.RunsLemmas.{Follow, level_runs-follow, level_runs-each}
use Rattle.bidi_lines.proofs.FoundRuns.{visual_runs-still}
use Rattle.bidi_lines.proofs.RunText.{flat_map-same_on}
use Rattle.bidi_lines.specs.LineUnits.{run_units, visual_units}

-- two parts of a list that follow one another
pub slice_range-joined : {X : Type 0} (units : List X) (a b c : ℕ) → a ≤ b → b ≤ c → slice_range units a b ++ slice_range units b c ≡ slice_range units a c
slice_range-joined units a b c low high =
    let e : c - a ≡ (b - a) + (c - b) = omega arith in
    let rest : drop b units ≡ drop (b - a) (drop a units) = ap (λ n. drop n units) (let s : b ≡ a + (b - a) = omega arith in s) ∙ sym (drop-drop (b - a) a units) in
    simp (e, take-add, rest)

pub follow-up : (a b : ℕ) (runs : List Run) → Follow a b runs → a ≤ b
follow-up a b [] e = omega (arith, e)
follow-up a b (run ∷ runs) h = let up = follow-up run.1 b runs h.2 in omega (arith, h.0, h.1)

-- parts that follow one another from a up to b
parts-joined : {X : Type 0} (units : List X) (a b : ℕ) (runs : List Run) → Follow a b runs → flat_map (λ (r : Run). slice_range units r.0 r.1) runs ≡ slice_range units a b
parts-joined units a b [] e =
    let none : b - a ≡ 0 = omega (arith, e) in simp (none)
parts-joined units a b (run ∷ runs) h =
    let up = follow-up run.1 b runs h.2 in
    simp (parts-joined units run.1 b runs h.2, h.0, slice_range-joined units a run.1 b (omega (arith, h.0, h.1)) up)

module _ (start : ℕ) (shown : List ℕ) (even : has_rtl shown ≡ false) where
  unit_even : (u : ℕ) → u < length shown → is_odd (get_or shown u 0) ≡ false
  unit_even u fits = grind (arith, none_odd shown even u fits)

  run_even : (k : ℕ) (d : Run) → k < length (level_runs start shown) → is_odd (run_level start shown (get_or (level_runs start shown) k d)) ≡ false
  run_even k d fits =
      let here = level_runs-each start shown k d fits in
      unit_even ((get_or (level_runs start shown) k d).0 - start) (omega (arith, here.starts_within, here.not_empty, here.ends_within))

  levels_even : has_rtl (map (run_level start shown) (level_runs start shown)) ≡ false
  levels_even = list_any_none is_odd (map (run_level start shown) (level_runs start shown)) (λ k d fits. even_at k d (omega (arith, fits, length-map (level_runs start shown) (run_level start shown))))
    where
      even_at : (k d : ℕ) → k < length (level_runs start shown) → is_odd (get_or (map (run_level start shown) (level_runs start shown)) k d) ≡ false
      even_at k d fits = simp (get_or-map (run_level start shown) (level_runs start shown) k (0, 0) d fits, run_even k (0, 0) fits)

  pub visual_units-still : {X : Type 0} (len_of : ℕ → ℕ) (encode : ℕ → List X) (chars : List ℕ) (units : List X)
      → visual_units len_of encode chars units start shown ≡ slice_range units start (start + length shown)
  visual_units-still len_of encode chars units =
      simp (
        ← visual_runs-still start shown levels_even,
        flat_map-same_on (run_units len_of encode chars units start shown) (λ (r : Run). slice_range units r.0 r.1) (level_runs start shown) (λ k d fits. simp (run_even k d fits)),
        parts-joined units start (start + length shown) (level_runs start shown) (level_runs-follow start shown),
      )
