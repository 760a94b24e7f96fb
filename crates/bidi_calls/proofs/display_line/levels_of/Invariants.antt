use Rattle.bidi_base.proofs.Common.{◌≡◌, take}
use Rattle.bidi_calls.proofs.display_line.levels_of.Given as goal

abbrev pub invariant-loop-number : goal.invariant-loop-number
invariant-loop-number l = l.levels.items ≡ take l.number-index l.numbers
