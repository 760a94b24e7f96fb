use Rattle.bidi_base.proofs.Common.{true, refl, arith}
use Rattle.bidi_base.specs.declared.char_data.BidiClass.TheVariants.{L}
use Rattle.bidi_base.proofs.UpdatedLemmas.{IsUpdated-more, IsUpdated-end}
use Rattle.bidi_rules.specs.WeakPass.{left_over}
use Rattle.bidi_rules.proofs.weak.w3_w6.change_few.Goals as goal

pub loop-unit-preserved : goal.loop-unit-preserved
loop-unit-preserved g c =
    let now = c.change_at.ensures in
    record {
      changed = IsUpdated-more L (λ u. true) left_over c.args.start c.args.classes.now c.loop-unit.unit c.loop-unit.classes c.change_at.new.classes (omega arith) refl now.changed now.outside c.change_at.auto.classes c.loop-unit.invariant.changed;
      steps = omega arith;
      none = λ empty. absurd (omega arith);
    }

pub returns : goal.returns
returns g c = record {
  changed = IsUpdated-end L (λ u. true) left_over c.args.start c.args.classes.now c.loop-unit.unit c.args.end c.loop-unit.classes (λ h. omega arith) (omega arith) (λ empty. (c.loop-unit.invariant.none empty).0) c.loop-unit.invariant.changed;
  steps = grind arith;
}
