use Rattle.bidi_base.proofs.Common.{◌≡◌, arith}
use Rattle.bidi_base.specs.declared.char_data.BidiClass.{BidiClass}
use Rattle.bidi_paragraphs.specs.KnownLevels.{number_as_l}
use Rattle.bidi_explicit.proofs.RunOf.{updated-more, updated-all, run_end}
use Rattle.bidi_paragraphs.proofs.known_levels.write_numbers.Goals as goal

-- a class that has changed stays
number_as_l-twice : (c : BidiClass) → number_as_l (number_as_l c) ≡ number_as_l c
number_as_l-twice c = grind arith

pub write_run-requires : goal.write_run-requires
write_run-requires c = omega (arith, run_end _ c.args.runs.now c.loop-run.run-index c.requires c.loop-run-test.true, c.loop-run.auto.classes)

-- a unit of the run that came
pub loop-run-preserved : goal.loop-run-preserved
loop-run-preserved c =
    updated-more number_as_l number_as_l-twice c.args.runs.now c.loop-run.run-index c.args.classes.now c.loop-run.classes c.write_run.new.classes c.loop-run-test.true c.requires c.loop-run.invariant c.write_run.ensures

pub returns : goal.returns
returns c = updated-all number_as_l c.args.runs.now c.loop-run.run-index c.args.classes.now c.loop-run.classes c.loop-run-test.false c.loop-run.invariant
