use Rattle.bidi_base.proofs.Common.{◌≡◌, ◌++◌, length}
use Rattle.bidi_controls.specs.Decoded.{units_of}
use Rattle.bidi_controls.proofs.decode.units_of.Given as goal

abbrev pub invariant-loop-rest : goal.invariant-loop-rest
invariant-loop-rest l = l.units.items ++ units_of l.high_first l.rest ≡ units_of l.high_first l.bytes

abbrev pub decreases-loop-rest : goal.decreases-loop-rest
decreases-loop-rest l = length l.rest
