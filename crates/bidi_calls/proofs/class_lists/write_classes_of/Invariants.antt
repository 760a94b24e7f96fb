use Rattle.bidi_base.proofs.Common.{◌≡◌, map, take}
use Rattle.bidi_numbers.specs.Numbers.{class_numbered}
use Rattle.bidi_calls.proofs.class_lists.write_classes_of.Given as goal

-- the classes so far
abbrev pub invariant-loop-i : goal.invariant-loop-i
invariant-loop-i l = take l.i l.out ≡ map class_numbered (take l.i l.numbers)
