use Rattle.bidi_base.proofs.Common.{◌≡◌, arith, nat_tests, splits_pair}
use Rattle.bidi_calls.proofs.AgreementSteps.{agree_more}
use Rattle.bidi_calls.proofs.per_char.is_per_char_by_units.Goals as goal

pub loop-at-preserved : goal.loop-at-preserved
loop-at-preserved c =
    let us = c.args.units.now in
    let same : c.is_pair.result ≡ splits_pair us c.loop-at.at = grind (arith, nat_tests) in
    record {
      within = omega arith;
      before =
          agree_more (splits_pair us) c.args.classes.now c.args.levels.now 1 c.loop-at.at c.loop-at.agree c.agrees_at-agree.result c.is_pair.result (omega arith) same c.loop-at.invariant.before
          c.agrees_at-agree.ensures;
    }
