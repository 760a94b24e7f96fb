use Rattle.bidi_base.proofs.Common.{◌≡◌, length, drop, reverse, nearest_direction}
use Rattle.bidi_base.proofs.neutrals.nearest_direction.Given as goal

-- what is left has the same nearest direction
abbrev pub invariant-loop-class : goal.invariant-loop-class
invariant-loop-class l = nearest_direction l.fn.before (reverse l.classes) ≡ nearest_direction l.fn.before (drop (length l.yielded) (reverse l.classes))
