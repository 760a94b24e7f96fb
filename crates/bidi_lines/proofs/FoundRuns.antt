-- What a program's list of runs is: runs are ranges there.
use Rattle.bidi_base.proofs.Common.{◌≡◌, ℕ, ◌+◌, ◌<◌, ◌≤◌, false, List, [], ◌∷◌, map, length, get_or, refl, sym, subst, le_refl, ◌∙◌, arith, rules, Range, get_or-map, length-map}
use Rattle.bidi_base.proofs.Common.{length-range_with_len, IsPermutation-refl, has_rtl, indexes, at_indexes, visual_order, IsVisualOrder, Run, run_of, level_runs, run_level, visual_runs}
use Rattle.bidi_base.proofs.Common.{AreVisualRuns, All, drop_all}
use Rattle.bidi_lines.proofs.Ordered.{visual_order-still, none_odd}
use Rattle.bidi_laws.proofs.VisualOrderLemmas.{visual_order-unique}
use Rattle.bidi_lines.proofs.Pieces.{at_indexes-map}
use Rattle.bidi_lines.proofs.RunsLemmas.{Follow, level_runs-each, level_runs-follow, level_runs-more}
use Rattle.bidi_lines.proofs.VisualRuns.{all-runs, visual_runs-are}

-- each begins within the line
pub runs_within : (start : ℕ) (levels : List ℕ) (ranges : List (Range ℕ)) → map run_of ranges ≡ level_runs start levels
    → All (λ r. (start ≤ r.start) × (r.start < start + length levels)) ranges
runs_within start levels ranges e k d fits = grind (arith, length-map ranges run_of, get_or-map run_of ranges k d (0, 0), level_runs-each start levels k (0, 0))

-- where no run has an odd level, the runs stand as they are
pub visual_runs-still : (start : ℕ) (levels : List ℕ) → has_rtl (map (run_level start levels) (level_runs start levels)) ≡ false → level_runs start levels ≡ visual_runs start levels
unfolding visual_runs
visual_runs-still start levels even = search (rules, visual_order-still, none_odd, length-map, all-runs)

-- and so does one run
pub visual_runs-one : (start : ℕ) (levels : List ℕ) → length (level_runs start levels) ≤ 1 → level_runs start levels ≡ visual_runs start levels
unfolding visual_runs
visual_runs-one start levels few =
    let of_runs = map (run_level start levels) (level_runs start levels) in
    let long : length of_runs ≡ length (level_runs start levels) = length-map (level_runs start levels) (run_level start levels) in
    let upwards : IsVisualOrder of_runs (indexes of_runs) = record {
      all_indexes = IsPermutation-refl (indexes of_runs);
      in_order = λ p q d before fits. absurd (omega (arith, length-range_with_len 0 (length of_runs)));
    } in
    simp (← visual_order-unique of_runs (indexes of_runs) upwards, long, at_indexes-map (0, 0) (level_runs start levels), all-runs (level_runs start levels))

-- which is the whole line
one_is_whole : (a b : ℕ) (runs : List Run) → length runs ≡ 1 → Follow a b runs → runs ≡ (a, b) ∷ []
one_is_whole a b [] one follows = absurd (omega (arith, one))
one_is_whole a b ((first, last) ∷ []) one follows = grind (arith, follows.0, follows.2)
one_is_whole a b (run ∷ next ∷ more) one follows = absurd (omega (arith, one))

pub visual_runs-whole : (start : ℕ) (levels : List ℕ) → length (level_runs start levels) ≡ 1 → visual_runs start levels ≡ (start, start + length levels) ∷ []
visual_runs-whole start levels one =
    sym (visual_runs-one start levels (omega (arith, one))) ∙ one_is_whole start (start + length levels) (level_runs start levels) one (level_runs-follow start levels)

-- if all units have one level, there is one run
pub visual_runs-same : (start : ℕ) (levels : List ℕ) → 0 < length levels → ((p : ℕ) → 0 ≤ p → p < length levels → get_or levels p 0 ≡ get_or levels 0 0)
    → visual_runs start levels ≡ (start, start + length levels) ∷ []
visual_runs-same start levels some same =
    let step = level_runs-more start levels 0 (length levels) some (le_refl _) same (λ more. absurd (omega (arith, more))) in
    visual_runs-whole start levels (grind (arith, step, drop_all))

-- and otherwise in the order of their levels
pub visual_runs-found : (start : ℕ) (levels of_runs order : List ℕ) (runs : List Run) → runs ≡ level_runs start levels → of_runs ≡ map (run_level start levels) runs → order ≡ visual_order of_runs
    → at_indexes (0, 0) runs order ≡ visual_runs start levels
unfolding visual_runs
visual_runs-found start levels of_runs order runs e f g = grind arith

pub AreVisualRuns-from_same : (start : ℕ) (levels : List ℕ) (runs : List Run) → runs ≡ visual_runs start levels → AreVisualRuns start levels runs
AreVisualRuns-from_same start levels runs e = subst (AreVisualRuns start levels) (sym e) (visual_runs-are start levels)

-- an empty line has no run
pub visual_runs-nil : (start : ℕ) (levels : List ℕ) → length levels ≡ 0 → visual_runs start levels ≡ []
unfolding visual_runs visual_order
visual_runs-nil start [] none = refl
visual_runs-nil start (level ∷ levels) none = absurd (omega (arith, none))
