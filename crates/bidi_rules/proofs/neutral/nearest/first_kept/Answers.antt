use Rattle.bidi_base.proofs.Common.{◌≡◌, true, sym, ◌∙◌, arith, is_kept_in_place, class_at}
use Rattle.bidi_rules.proofs.FirstKept.{find-passes, find-stops}
use Rattle.bidi_explicit.proofs.RunOf.{run_end}
use Rattle.bidi_rules.proofs.neutral.nearest.first_kept.Goals as goal

pub bounds-classes-unit : goal.bounds-classes-unit
bounds-classes-unit c = omega (arith, run_end _ c.args.runs.now c.loop-run.run-index c.requires c.loop-run-test.true)

pub returns-then-is_kept_in_place : goal.returns-then-is_kept_in_place
returns-then-is_kept_in_place c =
    let here : is_kept_in_place (class_at c.args.classes.now c.loop-unit.unit) ≡ true = sym c.is_kept_in_place.ensures ∙ c.if-is_kept_in_place.true in
    sym (find-stops (λ u. is_kept_in_place (class_at c.args.classes.now u)) c.args.runs.now c.loop-run.run-index c.loop-run-test.true c.loop-run.invariant c.loop-unit.unit (omega arith) (omega arith) c.loop-unit.invariant here)

pub loop-run-preserved : goal.loop-run-preserved
loop-run-preserved c = grind (arith, find-passes)
