use Rattle.bidi_base.proofs.Common.{◌≡◌, ◌+◌, ◌-◌, ◌<◌, ◌≤◌, ℕ, List, true, length, map, take, get_or, ap, arith, get_or-map, length-map, take_all, bounds, are_ordered, units_in_runs}
use Rattle.bidi_base.specs.declared.char_data.BidiClass.{BidiClass}
use Rattle.bidi_rules.specs.WeakPass.{left_over}
use Rattle.bidi_rules.proofs.CountedUnits.{length-units_in_runs-more}
use Rattle.bidi_explicit.proofs.InRuns.{run_some}
use Rattle.bidi_explicit.proofs.WalkLemmas.{no_range}
use Rattle.bidi_explicit.proofs.RunOf.{updated-more, updated-all, run_end}
use Rattle.bidi_rules.proofs.weak.w3_w6.resolve_w3_w6.Goals as goal

-- a class that has changed stays
left_over-twice : (c : BidiClass) → left_over (left_over c) ≡ left_over c
left_over-twice c = grind arith

-- the iterations of the run that came
units_more : (runs : List (ℕ × ℕ)) (i start end : ℕ) → are_ordered runs ≡ true → i < length runs → (get_or runs i (0, 0)).0 ≡ start → (get_or runs i (0, 0)).1 ≡ end
    → (length (units_in_runs (take (i + 1) runs)) ≡ length (units_in_runs (take i runs)) + (end - start)) × (start < end)
units_more runs i start end ordered fits starts ends = grind (arith, length-units_in_runs-more, run_some) steps 400000

pub change_run-requires : goal.change_run-requires
change_run-requires g c = omega (arith, run_end _ c.args.runs.now c.loop-run.run-index c.requires.within c.loop-run-test.true, c.loop-run.auto.classes)

-- a unit of the run that came
pub loop-run-preserved : goal.loop-run-preserved
loop-run-preserved g c =
    let runs = c.args.runs.now in
    let i = c.loop-run.run-index in
    let long = length-map runs bounds in
    let here = get_or-map bounds runs i no_range (0, 0) c.loop-run-test.true in
    let from_is = ap (λ (r : ℕ × ℕ). r.0) here in
    let to_is = ap (λ (r : ℕ × ℕ). r.1) here in
    let turns = units_more (map bounds runs) i _ _ c.requires.ordered (omega arith) from_is to_is in
    record {
      changed = updated-more left_over left_over-twice runs i c.args.classes.now c.loop-run.classes c.change_run.new.classes c.loop-run-test.true c.requires.within c.loop-run.invariant.changed c.change_run.ensures.changed;
      steps_at_least = grind (arith, turns, c.change_run.ensures.steps);
      steps_at_most = grind (arith, turns, c.change_run.ensures.steps);
    }

pub returns-clause-changed : goal.returns-clause-changed
returns-clause-changed g c = updated-all left_over c.args.runs.now c.loop-run.run-index c.args.classes.now c.loop-run.classes c.loop-run-test.false c.loop-run.invariant.changed

-- all runs came
all_runs : (i : ℕ) (runs : List (ℕ × ℕ)) → length runs ≤ i → length (units_in_runs (take i runs)) ≡ length (units_in_runs runs)
all_runs i runs past = ap (λ (rs : List (ℕ × ℕ)). length (units_in_runs rs)) (take_all i runs past)

pub returns-clause-steps_at_least : goal.returns-clause-steps_at_least
returns-clause-steps_at_least g c = grind (arith, length-map, all_runs)

pub returns-clause-steps_at_most : goal.returns-clause-steps_at_most
returns-clause-steps_at_most g c = grind (arith, length-map, all_runs)
