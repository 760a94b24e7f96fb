use Rattle.bidi_base.proofs.Common.{◌≡◌, ◌<◌, ◌≤◌, false, arith, stands_for, class_at}
use Rattle.bidi_rules.proofs.NearestLemmas.{every-more, IsFirstFor-here}
use Rattle.bidi_rules.proofs.neutral.nearest.first_for.Goals as goal

pub returns-then-unit-end : goal.returns-then-unit-end
returns-then-unit-end c =
    grind (
      arith,
      IsFirstFor-here c.args.runs.now c.loop-run.run-index c.loop-run-test.true c.requires.ordered c.args.direction c.args.classes.now c.args.from c.args.to c.first_standing_for-unit.result c.loop-run.invariant,
    )

pub loop-run-preserved : goal.loop-run-preserved
loop-run-preserved c =
    let f = c.first_standing_for-unit.ensures in
    every-more c.args.runs.now c.loop-run.run-index c.loop-run-test.true (λ k. c.args.from ≤ k → k < c.args.to → stands_for c.args.direction (class_at c.args.classes.now k) ≡ false) c.loop-run.invariant
    (λ k start end from below. f.before k (omega arith) (omega (arith, f.ends, c.if-unit-end.false)))
