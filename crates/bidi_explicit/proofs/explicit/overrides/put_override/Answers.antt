-- One code unit after another.
use Rattle.bidi_base.proofs.Common.{◌≡◌, true, refl, arith}
use Rattle.bidi_base.specs.declared.char_data.BidiClass.TheVariants.{L}
use Rattle.bidi_base.proofs.UpdatedLemmas.{IsUpdated-none, IsUpdated-set}
use Rattle.bidi_explicit.specs.ExplicitStretches.{put_over}
use Rattle.bidi_explicit.proofs.explicit.overrides.put_override.Goals as goal

pub loop-unit-init : goal.loop-unit-init
loop-unit-init g c = (IsUpdated-none L (λ u. true) (put_over c.args.put) c.args.from c.args.classes.now c.args.from (omega arith), omega arith)

pub loop-unit-preserved : goal.loop-unit-preserved
loop-unit-preserved g c =
    (IsUpdated-set L (λ u. true) (put_over c.args.put) c.args.from c.args.classes.now c.loop-unit.unit c.loop-unit.classes c.put_over.result (omega arith) (omega (arith, c.loop-unit.invariant.0.same_len)) refl c.put_over.ensures c.loop-unit.invariant.0, omega arith)

pub returns-clause-put : goal.returns-clause-put
returns-clause-put g c = let done : c.loop-unit.unit ≡ c.args.to = omega arith in simp done at c.loop-unit.invariant.0
