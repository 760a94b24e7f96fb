use Rattle.bidi_base.proofs.Common.{false, refl}
use Rattle.bidi_base.proofs.BracketSearch.{HasRead-start}
use Rattle.bidi_base.proofs.brackets.PairSearch.new.Goals as goal

pub returns : goal.returns
returns c = HasRead-start (record { waiting = c.new.result; pairs = c.new-2.result; is_over = false }) c.new.ensures c.new-2.ensures.items refl
