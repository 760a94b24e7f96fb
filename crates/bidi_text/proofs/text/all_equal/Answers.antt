use Rattle.bidi_base.proofs.Common.{arith}
use Rattle.bidi_text.proofs.text.all_equal.Goals as goal

pub returns-in-len1-up : goal.returns-in-len1-up
returns-in-len1-up g c = grind arith
