use Rattle.bidi_base.proofs.Common.{arith, nil_from_length}
use Rattle.bidi_explain.proofs.explain.explain.Goals as goal

pub loop-rest-preserved : goal.loop-rest-preserved
loop-rest-preserved g c = grind arith

pub returns : goal.returns
returns g c = grind (arith, nil_from_length)
