use Rattle.bidi_base.proofs.Common.{false, refl}
use Rattle.bidi_base.proofs.BracketSearch.{HasRead-start}
use Rattle.bidi_base.proofs.brackets.PairSearch.clear.Goals as goal

pub returns : goal.returns
returns c = HasRead-start (record { waiting = c.clear.new.self; pairs = c.clear-2.new.self; is_over = false }) c.clear.ensures c.clear-2.ensures.items refl
