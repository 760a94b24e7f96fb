use Rattle.bidi_base.proofs.Common.{arith}
use Rattle.bidi_base.proofs.PlacesLemmas.{last_or-slice_get}
use Rattle.bidi_base.proofs.isolates.waiting_for.Goals as goal

pub returns-in-Some : goal.returns-in-Some
returns-in-Some c = grind (arith, last_or-slice_get)
