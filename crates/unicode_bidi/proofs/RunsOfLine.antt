-- The runs of a line, each as a range of the text or as a run with its level.
use Rattle.bidi_base.proofs.Common.{◌≡◌, ℕ, ◌<◌, List, length, map, get_or, sym, subst, ap, ◌∙◌, arith, All, Range, get_or-map, length-map, map-map, AnalysedText, AreLevelsOfLine, AreRunsOfLine, run_of, run_level}
use Rattle.bidi_base.specs.AnalysedText.{IsPartOfLine}
use Rattle.bidi_lines.specs.Runs.{StartsInLine}
use Rattle.unicode_bidi.specs.declared.visual_run.VisualRun.{VisualRun}
use Rattle.unicode_bidi.specs.VisualRun.{AreRunsWithLevels, range_of, level_of}

-- what holds of each value of a function holds of the function at each element
pub All-unmap : {X Y : Type 0} (P : X → Type 0) (f : Y → X) (ys : List Y) → All P (map f ys) → All (λ y. P (f y)) ys
All-unmap P f ys all k d fits = subst P (get_or-map f ys k d (f d) fits) (all k (f d) (rw (length-map ys f) fits))

module _ (a : AnalysedText) (level : ℕ) (line : Range ℕ) where
  -- each range of the line's runs can slice the text
  pub parts_of_line : (ranges : List (Range ℕ)) → AreRunsOfLine a level line (map run_of ranges) → All (λ r. IsPartOfLine a line (run_of r)) ranges
  parts_of_line ranges runs = All-unmap (IsPartOfLine a line) run_of ranges runs.parts

  -- and begins within the line
  pub starts_in_line : (ranges : List (Range ℕ)) (levels : List ℕ) → AreRunsOfLine a level line (map run_of ranges) → AreLevelsOfLine a level line levels
      → All (StartsInLine line.start levels) ranges
  starts_in_line ranges levels runs are_levels k d fits =
      let part = parts_of_line ranges runs k d fits in
      (part.begins, omega (arith, part.not_empty, part.ends, are_levels.one_per_unit))

  -- the level of each run, from those of the line's units
  level_at : (levels : List ℕ) (shown : List VisualRun) → map level_of shown ≡ map (λ r. run_level line.start levels (run_of r)) (map range_of shown)
      → (k : ℕ) (d : VisualRun) → k < length shown → (get_or shown k d).level ≡ run_level line.start levels (run_of (get_or shown k d).range)
  level_at levels shown e k d fits = grind (arith, get_or-map level_of shown k d 0, get_or-map (λ (r : VisualRun). run_level line.start levels (run_of r.range)) shown k d 0, map-map)

  -- the runs of the line, from their ranges and their levels
  pub runs_with_levels : (levels : List ℕ) (ranges : List (Range ℕ)) (shown : List VisualRun) → AreRunsOfLine a level line (map run_of ranges) → AreLevelsOfLine a level line levels
      → map range_of shown ≡ ranges → map level_of shown ≡ map (λ r. run_level line.start levels (run_of r)) ranges → AreRunsWithLevels a level line shown
  runs_with_levels levels ranges shown runs are_levels same e =
      let own : AreRunsOfLine a level line (map (λ r. run_of r.range) shown) = subst (AreRunsOfLine a level line) (ap (map run_of) (sym same) ∙ map-map run_of range_of shown) runs in
      record {
        runs = own;
        levels = λ k d fits. rw are_levels.units at (level_at levels shown (rw same e) k d fits);
        parts = All-unmap (IsPartOfLine a line) (λ r. run_of r.range) shown own.parts;
      }
