-- A pass that writes the runs of a line, one after the other, to parts of a list.
use Rattle.bidi_base.proofs.Common.{◌≡◌, ℕ, ◌+◌, ◌-◌, ◌<◌, ◌≤◌, Bool, true, false, List, ◌++◌, flat_map, reverse, length, get_or, take, drop, map, ap, sym, subst, ◌∙◌, arith, append_assoc}
use Rattle.bidi_base.proofs.Common.{length-append, Range, get_or-map, get_or_default, length-map, take_more, flat_map-append, is_odd, subrange, IsLine, Run, run_of, All, slice_range}
use Rattle.bidi_base.proofs.Common.{length-take-le, take-append_seam, append-nil}
use Rattle.bidi_lines.specs.LineUnits.{run_units}

-- the ranges of runs cut no character if the runs do not
pub ranges_at_boundaries : (len_of : ℕ → ℕ) (chars : List ℕ) (ranges : List (Range ℕ)) (runs : List Run) → map run_of ranges ≡ runs
    → All (λ (r : Run). IsLine len_of chars r.0 r.1) runs → All (λ r. IsLine len_of chars r.start r.end) ranges
ranges_at_boundaries len_of chars ranges runs e each k d fits =
    let same : get_or runs k (0, 0) ≡ run_of (get_or ranges k d) = ap (λ rs. get_or rs k (0, 0)) (sym e) ∙ get_or-map run_of ranges k d (0, 0) fits in
    subst (λ (r : Run). IsLine len_of chars r.0 r.1) same (each k (0, 0) (omega (arith, fits, ap length e, length-map ranges run_of)))

-- what is written to the next part of a list
pub written_part : {X : Type 0} (xs begun new : List X) (at end n : ℕ) → take at xs ≡ begun → at ≤ length xs → end ≡ at + length new
    → take end (take at xs ++ (new ++ drop n (drop at xs))) ≡ begun ++ new
written_part xs begun new at end n is fits e =
    let long : end ≡ length (take at xs ++ new) = omega (arith, length-append (take at xs) new, length-take-le at xs fits) in
    simp (long, ← append_assoc) (take-append_seam (take at xs ++ new) (drop n (drop at xs)) ∙ ap (λ ys. ys ++ new) is)

-- one more run
pub written_run : {X : Type 0} (f : Run → List X) (ranges : List (Range ℕ)) (k : ℕ) (d : Range ℕ) (xs new : List X) (at end n : ℕ) → k < length ranges
    → take at xs ≡ flat_map f (take k (map run_of ranges)) → at ≤ length xs → end ≡ at + length new → new ≡ f (run_of (get_or ranges k d))
    → take end (take at xs ++ (new ++ drop n (drop at xs))) ≡ flat_map f (take (k + 1) (map run_of ranges))
written_run f ranges k d xs new at end n fits so_far inside e is =
    written_part xs (flat_map f (take k (map run_of ranges))) new at end n so_far inside e
    ∙ grind (
      arith,
      append_assoc,
      take_more (map run_of ranges) k (0, 0),
      flat_map-append,
      append-nil,
      get_or-map run_of ranges k d (0, 0),
      length-map,
    )

module _ {X : Type 0} (len_of : ℕ → ℕ) (encode : ℕ → List X) (chars : List ℕ) (units : List X) (start : ℕ) (levels : List ℕ) (run : Range ℕ) (level : ℕ) (odd : Bool) where
  -- the units of an odd run, and of an even one
  pub run_units-odd : run.start - start < length levels → level ≡ get_or levels (run.start - start) level → odd ≡ is_odd level → odd ≡ true
      → flat_map encode (reverse (subrange len_of chars run.start run.end)) ≡ run_units len_of encode chars units start levels (run_of run)
  run_units-odd fits e f is = grind (arith, get_or_default levels (run.start - start) level 0)

  pub run_units-even : run.start - start < length levels → level ≡ get_or levels (run.start - start) level → odd ≡ is_odd level → odd ≡ false
      → slice_range units run.start run.end ≡ run_units len_of encode chars units start levels (run_of run)
  run_units-even fits e f is = grind (arith, get_or_default levels (run.start - start) level 0)
