use Rattle.bidi_base.proofs.Common.{true, refl, arith}
use Rattle.bidi_base.specs.declared.char_data.BidiClass.TheVariants.{L}
use Rattle.bidi_base.proofs.UpdatedLemmas.{IsUpdated-set, IsUpdated-end}
use Rattle.bidi_paragraphs.specs.KnownLevels.{number_as_l}
use Rattle.bidi_paragraphs.proofs.known_levels.write_run.Goals as goal

pub loop-unit-preserved : goal.loop-unit-preserved
loop-unit-preserved c = (
  IsUpdated-set L (λ u. true) number_as_l c.args.run.now.start c.args.classes.now c.loop-unit.unit c.loop-unit.classes c.number_as_l.result (omega arith) (omega (arith, c.requires)) refl c.number_as_l.ensures c.loop-unit.invariant.0,
  λ empty. absurd (omega arith),
)

pub returns : goal.returns
returns c =
    IsUpdated-end L (λ u. true) number_as_l c.args.run.now.start c.args.classes.now c.loop-unit.unit c.args.run.now.end c.loop-unit.classes (λ h. omega arith) (omega arith) c.loop-unit.invariant.1 c.loop-unit.invariant.0
