use Rattle.bidi_base.proofs.Common.{◌≡◌, map, take, class_number}
use Rattle.bidi_calls.proofs.analysis.write_classes.Given as goal

-- the numbers so far
abbrev pub invariant-loop-i : goal.invariant-loop-i
invariant-loop-i l = take l.i l.out ≡ map class_number (take l.i l.classes)
