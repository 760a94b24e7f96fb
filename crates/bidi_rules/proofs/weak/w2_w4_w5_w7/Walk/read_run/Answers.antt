use Rattle.bidi_base.proofs.Common.{◌≡◌, ◌+◌, ◌-◌, ◌<◌, ◌≤◌, ℕ, true, List, length, get_or, map, bounds, arith, and_right, get_or-map, length-map, are_ordered}
use Rattle.bidi_rules.specs.declared.weak.w2_w4_w5_w7.Walk.{Walk}
use Rattle.bidi_rules.specs.WeakPass.{is_other}
use Rattle.bidi_rules.specs.WeakWalk.{resolved_to, WaitsBelow}
use Rattle.bidi_explicit.specs.SequenceUnits.{count_below}
use Rattle.bidi_rules.proofs.CountedUnits.{count_below-within, count_resolved-monotone, resolved_to-idle}
use Rattle.bidi_explicit.proofs.InRuns.{run_some}
use Rattle.bidi_rules.proofs.WeakWalkLemmas.{other-free, IsUnderWay-unseen}
use Rattle.bidi_rules.proofs.weak.w2_w4_w5_w7.Walk.read_run.Goals as goal

WaitsBelow-later : (runs : List (ℕ × ℕ)) (w : Walk) (u v : ℕ) → u ≤ v → WaitsBelow runs w u → WaitsBelow runs w v
WaitsBelow-later runs w u v order h = grind arith steps 400000

pub loop-at-init : goal.loop-at-init
loop-at-init g c = grind (arith, get_or-map, run_some, length-map)

pub loop-at-preserved-then-is_kept_in_place : goal.loop-at-preserved-then-is_kept_in_place
loop-at-preserved-then-is_kept_in_place g c = grind (arith, length-map)

pub loop-at-preserved : goal.loop-at-preserved
loop-at-preserved g c =
    let counted = count_resolved-monotone (map bounds c.args.sequence.now.runs.now) c.loop-at.self c.loop-at.at c.stretch_end-next.result c.requires.ordered (omega arith) in
    record {
      starts = grind arith;
      ends = grind arith;
      end = grind arith;
      long = grind arith;
      waiting = grind (arith, WaitsBelow-later);
      rest = grind arith;
      reads = grind (arith, IsUnderWay-unseen, and_right);
      steps_at_least = grind arith;
      steps_at_most = omega (arith, counted);
      ended = λ done. omega (arith, counted);
    }

-- the units of one run that are passed over count as resolved
passed : (runs : List (ℕ × ℕ)) (w after : Walk) (index i j : ℕ) → are_ordered runs ≡ true → index < length runs → (get_or runs index (0, 0)).0 ≤ i → i < j
    → j ≤ (get_or runs index (0, 0)).1 → is_other w.before ≡ true → is_other after.before ≡ true
    → count_below runs (resolved_to w i) + (j - i) ≤ count_below runs (resolved_to after j)
passed runs w after index i j ordered fits from order to before behind =
    grind (
      arith,
      count_below-within 0 index runs i j ordered fits from,
      resolved_to-idle w i (other-free w.before before),
      resolved_to-idle after j (other-free after.before behind),
    )

pub loop-at-preserved-then-passes_over : goal.loop-at-preserved-then-passes_over
loop-at-preserved-then-passes_over g c =
    grind (arith, passed (map bounds c.args.sequence.now.runs.now) c.loop-at.self c.pass_over-at.new.self c.args.run c.loop-at.at c.pass_over-at.result, length-map)
