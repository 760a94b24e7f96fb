use Rattle.bidi_base.proofs.Common.{◌≡◌, ◌+◌, map, take}
use Rattle.bidi_numbers.specs.Structs.{run_struct}
use Rattle.bidi_calls.proofs.run_structs.write_structs.Given as goal

-- the structs so far
abbrev pub invariant-loop-i : goal.invariant-loop-i
invariant-loop-i l = take l.i l.out ≡ map (λ r. run_struct l.start l.levels (l.start + r.start, l.start + r.end)) (take l.i l.runs)
