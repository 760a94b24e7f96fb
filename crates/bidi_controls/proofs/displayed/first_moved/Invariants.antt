use Rattle.bidi_base.proofs.Common.{◌≡◌, ◌+◌, drop}
use Rattle.bidi_controls.specs.Displayed.{first_moved}
use Rattle.bidi_controls.proofs.displayed.first_moved.Given as goal

abbrev pub invariant-loop-index : goal.invariant-loop-index
invariant-loop-index l = l.index + first_moved (drop l.index l.displayed) l.rest ≡ first_moved l.fn.displayed l.fn.read
