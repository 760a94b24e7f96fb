use Rattle.bidi_base.proofs.Common.{◌≡◌, ℕ, ◌<◌, None, fault_at}
use Rattle.bidi_base.proofs.data_source.first_fault.Given as goal

abbrev pub invariant-loop-i : goal.invariant-loop-i
invariant-loop-i l = (k : ℕ) → k < l.i → fault_at l.ranges k ≡ None
