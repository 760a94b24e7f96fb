use Rattle.bidi_base.proofs.Common.{◌-◌, length}
use Rattle.bidi_calls.proofs.PlacesLemmas.{HasPlaces}
use Rattle.bidi_calls.proofs.shown.write_places.Given as goal

abbrev pub invariant-loop-k : goal.invariant-loop-k
invariant-loop-k l = HasPlaces l.order (length l.order - l.k) l.out (length l.fn.out)
