use Rattle.bidi_base.proofs.Common.{◌≡◌, take, replicate}
use Rattle.bidi_calls.proofs.characters.fill.Given as goal

-- the entries so far
abbrev pub invariant-loop-i : goal.invariant-loop-i
invariant-loop-i g l = take l.i l.out ≡ replicate l.i l.number
