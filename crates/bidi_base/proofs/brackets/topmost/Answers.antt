use Rattle.bidi_base.proofs.Common.{arith, slice_get-get_or}
use Rattle.bidi_base.proofs.PlacesLemmas.{reverse-take_more}
use Rattle.bidi_base.proofs.brackets.topmost.Goals as goal

pub returns-then-waiting-entry-clause-found : goal.returns-then-waiting-entry-clause-found
returns-then-waiting-entry-clause-found c = grind (arith, reverse-take_more, slice_get-get_or)
