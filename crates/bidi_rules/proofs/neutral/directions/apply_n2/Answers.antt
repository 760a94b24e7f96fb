use Rattle.bidi_base.proofs.Common.{◌≡◌, arith, n2_rule}
use Rattle.bidi_base.specs.declared.char_data.BidiClass.{BidiClass}
use Rattle.bidi_explicit.proofs.RunOf.{updated-more, updated-all, run_end}
use Rattle.bidi_rules.proofs.neutral.directions.apply_n2.Goals as goal

-- a class that has changed stays
n2-twice : (e c : BidiClass) → n2_rule e (n2_rule e c) ≡ n2_rule e c
n2-twice e c = grind arith

pub apply_n2_in_run-requires : goal.apply_n2_in_run-requires
apply_n2_in_run-requires c = omega (arith, run_end _ c.args.runs.now c.loop-run.run-index c.requires c.loop-run-test.true, c.loop-run.auto.classes)

-- a unit of the run that came
pub loop-run-preserved : goal.loop-run-preserved
loop-run-preserved c =
    updated-more (n2_rule c.args.embedding) (n2-twice c.args.embedding) c.args.runs.now c.loop-run.run-index c.args.classes.now c.loop-run.classes c.apply_n2_in_run.new.classes c.loop-run-test.true c.requires c.loop-run.invariant c.apply_n2_in_run.ensures

pub returns : goal.returns
returns c = updated-all (n2_rule c.args.embedding) c.args.runs.now c.loop-run.run-index c.args.classes.now c.loop-run.classes c.loop-run-test.false c.loop-run.invariant
