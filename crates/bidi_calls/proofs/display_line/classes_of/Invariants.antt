use Rattle.bidi_base.proofs.Common.{◌≡◌, map, take}
use Rattle.bidi_numbers.specs.Numbers.{class_numbered}
use Rattle.bidi_calls.proofs.display_line.classes_of.Given as goal

abbrev pub invariant-loop-number : goal.invariant-loop-number
invariant-loop-number l = l.classes.items ≡ map class_numbered (take l.number-index l.numbers)
