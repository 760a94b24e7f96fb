use Rattle.bidi_base.proofs.Common.{◌≡◌, take}
use Rattle.bidi_calls.proofs.analysis.write_levels.Given as goal

-- the numbers so far
abbrev pub invariant-loop-i : goal.invariant-loop-i
invariant-loop-i l = take l.i l.out ≡ take l.i l.levels
