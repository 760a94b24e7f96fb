use Rattle.bidi_base.proofs.Common.{◌≡◌, ◌-◌, length, drop, take, reverse}
use Rattle.bidi_lines.proofs.line_text.reversed.write_reversed.Given as goal

-- the units so far, last first
abbrev pub invariant-loop-at : goal.invariant-loop-at
invariant-loop-at g l = drop (length l.units - l.at) l.out ≡ reverse (take l.at l.units)
