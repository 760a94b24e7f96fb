-- The visual runs of a line have the length of the line.
use Rattle.bidi_base.proofs.Common.{◌≡◌, ℕ, ◌-◌, List, [], ◌∷◌, length, map, refl, sym, ap, ◌∙◌, arith, Range, length-append, length-map, length-reverse, length-range_with_len, sum_by}
use Rattle.bidi_base.proofs.Common.{sum_by-cons, visual_order, Run, run_of, written_run, written_runs, AreVisualRuns, length_permutation}
use Rattle.bidi_lines.proofs.Pieces.{length-between}
use Rattle.bidi_lines.proofs.Ordered.{visual_order-is}

pub length-written_run : (from : ℕ) (levels : List ℕ) (run : Run) → length (written_run from levels run) ≡ run.1 - run.0
length-written_run from levels run = grind (arith, length-reverse, length-between)

length-written_runs : (from : ℕ) (levels : List ℕ) (ranges : List (Range ℕ)) → length (written_runs from levels (map run_of ranges)) ≡ sum_by (λ r. r.end - r.start) ranges
unfolding written_runs
length-written_runs from levels [] = refl
length-written_runs from levels (r ∷ rs) =
    grind (arith, length-append, length-written_run from levels (run_of r), sum_by-cons (λ (r : Range ℕ). r.end - r.start) r rs, length-written_runs from levels rs)

pub length-visual_order : (levels : List ℕ) → length (visual_order levels) ≡ length levels
length-visual_order levels = length_permutation _ _ (visual_order-is levels).all_indexes ∙ length-range_with_len 0 (length levels)

-- the lengths of the runs add up to that of the line
pub visual_runs-whole : (from : ℕ) (levels : List ℕ) (ranges : List (Range ℕ)) → AreVisualRuns from levels (map run_of ranges) → sum_by (λ r. r.end - r.start) ranges ≡ length levels
visual_runs-whole from levels ranges h =
    sym (length-written_runs from levels ranges) ∙ ap length h.in_order ∙ length-map _ _ ∙ length-visual_order levels
