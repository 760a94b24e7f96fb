-- The visual runs of a line, counted from its first unit and from that of the text.
use Rattle.bidi_base.proofs.Common.{◌≡◌, ℕ, ◌+◌, ◌-◌, ◌<◌, ◌≤◌, ◌==◌, List, [], ◌∷◌, length, get_or, map, refl, sym, ap, ◌∙◌, arith, Range, get_or-map, length-map, map-map, cases_Bool, inl, inr}
use Rattle.bidi_base.proofs.Common.{Run, run_of, level_runs_from, level_runs, run_level, visual_runs, visual_order, AreVisualRuns, All}
use Rattle.bidi_lines.proofs.Ordered.{visual_order-is}
use Rattle.bidi_lines.proofs.VisualRuns.{order_below}
use Rattle.bidi_lines.proofs.CharRuns.{map-same_on, at_indexes-moved}
use Rattle.bidi_numbers.specs.Structs.{run_struct}

-- a run that begins so many units later
abbrev moved : ℕ → Run → Run
moved by run = (by + run.0, by + run.1)

level_runs_from-moved : (by start from level : ℕ) (levels : List ℕ) → level_runs_from (by + start) (by + from) level levels ≡ map (moved by) (level_runs_from start from level levels)
level_runs_from-moved by start from level [] = refl
level_runs_from-moved by start from level (next ∷ levels) = elim (cases_Bool (next == level)) [
  | inl same ↦ simp same (grind (arith, level_runs_from-moved by start (from + 1) level levels))
  | inr other ↦ simp other (grind (arith, level_runs_from-moved by from (from + 1) next levels))
]

level_runs-moved : (by : ℕ) (levels : List ℕ) → level_runs by levels ≡ map (moved by) (level_runs 0 levels)
level_runs-moved by [] = refl
level_runs-moved by (level ∷ levels) = let e : by ≡ by + 0 = omega arith in ap (λ n. level_runs_from n (by + 1) level levels) e ∙ level_runs_from-moved by 0 1 level levels

run_level-moved : (by : ℕ) (levels : List ℕ) (run : Run) → run_level by levels (moved by run) ≡ run_level 0 levels run
run_level-moved by levels run = let e : by + run.0 - by ≡ run.0 - 0 = omega arith in ap (λ k. get_or levels k 0) e

pub visual_runs-moved : (by : ℕ) (levels : List ℕ) → visual_runs by levels ≡ map (moved by) (visual_runs 0 levels)
unfolding visual_runs
visual_runs-moved by levels =
    let own : List ℕ = map (run_level 0 levels) (level_runs 0 levels) in
    let below = order_below own (visual_order own) (length (level_runs 0 levels)) (length-map (level_runs 0 levels) (run_level 0 levels)) (visual_order-is own) in
    let same_levels = map-same_on (λ r. run_level by levels (moved by r)) (run_level 0 levels) (level_runs 0 levels) (λ k d fits. run_level-moved by levels (get_or (level_runs 0 levels) k d)) in
    simp (level_runs-moved by levels, map-map, same_levels, at_indexes-moved (moved by) (level_runs 0 levels) (visual_order own) below)

-- the runs as structs, from the ranges that are counted from the line's first unit
pub structs-moved : (by : ℕ) (levels : List ℕ) (ranges : List (Range ℕ)) → map run_of ranges ≡ visual_runs 0 levels
    → map (λ r. run_struct by levels (by + r.start, by + r.end)) ranges ≡ map (run_struct by levels) (visual_runs by levels)
structs-moved by levels ranges e =
    sym (map-map (λ (r : Run). run_struct by levels (moved by r)) run_of ranges)
    ∙ ap (map (λ (r : Run). run_struct by levels (moved by r))) e
    ∙ sym (map-map (run_struct by levels) (moved by) (visual_runs 0 levels))
    ∙ ap (map (run_struct by levels)) (sym (visual_runs-moved by levels))

-- their number
pub length-structs : (by : ℕ) (levels : List ℕ) (ranges : List (Range ℕ)) → map run_of ranges ≡ visual_runs 0 levels → length (map (run_struct by levels) (visual_runs by levels)) ≡ length ranges
length-structs by levels ranges e = ap length (sym (structs-moved by levels ranges e)) ∙ length-map ranges _

-- each run lies in the line
pub runs_within : (levels : List ℕ) (ranges : List (Range ℕ)) → AreVisualRuns 0 levels (map run_of ranges) → All (λ r. (r.start < length levels) × (r.end ≤ length levels)) ranges
runs_within levels ranges h k d fits = grind (arith, get_or-map run_of ranges k d (0, 0), length-map, h.are_runs k (0, 0))

-- as many as the visual runs of the line, wherever these are counted from
pub length-moved : (by : ℕ) (levels : List ℕ) (ranges : List (Range ℕ)) → map run_of ranges ≡ visual_runs 0 levels → length ranges ≡ length (visual_runs by levels)
length-moved by levels ranges e =
    sym (length-map ranges run_of) ∙ ap length e ∙ sym (length-map (visual_runs 0 levels) (moved by)) ∙ ap length (sym (visual_runs-moved by levels))
