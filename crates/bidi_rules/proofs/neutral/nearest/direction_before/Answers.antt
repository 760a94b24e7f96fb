use Rattle.bidi_base.proofs.Common.{◌≡◌, ◌+◌, ◌-◌, ◌<◌, None, map, drop, sym, ap, ◌∙◌, arith, as_direction, class_at, bounds, in_runs}
use Rattle.bidi_explicit.proofs.RunOf.{run_end}
use Rattle.bidi_rules.proofs.NearestLemmas.{every-later, IsNearestBefore-here}
use Rattle.bidi_rules.proofs.neutral.nearest.direction_before.Goals as goal

pub loop-run-preserved : goal.loop-run-preserved
loop-run-preserved c =
    let i = c.loop-run.run - 1 in
    let next : i + 1 ≡ c.loop-run.run = omega (arith, c.loop-run-test.true) in
    λ k inside below.
    every-later c.args.runs.now i (omega (arith, c.loop-run-test.true, c.loop-run.auto.run)) (λ k. k < c.args.to → as_direction (class_at c.args.classes.now k) ≡ None)
    (λ k old. c.loop-run.invariant k (ap (λ n. in_runs (drop n (map bounds c.args.runs.now)) k) (sym next) ∙ old))
    (λ k start end to. c.loop-unit.invariant k (omega (arith, c.loop-unit-test.false)) end to) k inside below

pub bounds-classes-unit : goal.bounds-classes-unit
bounds-classes-unit c =
    omega (arith, run_end _ c.args.runs.now (c.loop-run.run - 1) c.requires.inside (omega (arith, c.loop-run-test.true, c.loop-run.auto.run)), c.loop-unit-test.true, c.loop-unit.auto.unit)

pub returns-in-Some : goal.returns-in-Some
returns-in-Some c =
    let a = c.args in
    let i = c.loop-run.run - 1 in
    let next : i + 1 ≡ c.loop-run.run = omega (arith, c.loop-run-test.true) in
    IsNearestBefore-here a.runs.now i (omega (arith, c.loop-run-test.true, c.loop-run.auto.run)) c.requires.ordered a.before c.in-Some.direction a.classes.now a.to (c.loop-unit.unit - 1)
    (λ k old below. c.loop-run.invariant k (ap (λ n. in_runs (drop n (map bounds a.runs.now)) k) (sym next) ∙ old) below)
    (λ k behind end to. c.loop-unit.invariant k (omega (arith, c.loop-unit-test.true)) end to)
    (omega (arith, c.loop-unit-test.true, c.loop-unit.auto.unit)) (omega (arith, c.loop-unit-test.true)) (omega (arith, c.loop-unit-test.true, c.loop-unit.auto.unit)) (sym c.as_direction.ensures ∙ c.in-Some.is)
