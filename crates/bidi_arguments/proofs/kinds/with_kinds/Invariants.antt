use Rattle.bidi_base.proofs.Common.{◌≡◌, ◌+◌, length, List, [], Option, Some, None, ℕ}
use Rattle.std.proofs.Common.{Bor}
use Rattle.bidi_arguments.specs.Kinds.{names_in, with_kinds}
use Rattle.bidi_arguments.proofs.kinds.with_kinds.Given as goal

-- the names of what is left
abbrev pub names_left : Option (Bor (List ℕ)) → List (List ℕ)
names_left None = []
names_left (Some rest) = names_in rest.now

abbrev pub len_left : Option (Bor (List ℕ)) → ℕ
len_left None = 0
len_left (Some rest) = length rest.now + 1

abbrev pub invariant-loop-rest : goal.invariant-loop-rest
invariant-loop-rest l = with_kinds l.is_wanted l.kinds (names_left l.rest) ≡ with_kinds l.is_wanted l.fn.wanted (names_in l.fn.names)

abbrev pub decreases-loop-rest : goal.decreases-loop-rest
decreases-loop-rest l = len_left l.rest
