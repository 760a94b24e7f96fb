use Rattle.bidi_base.proofs.Common.{◌≡◌, ◌≤◌, List, ℕ, length}
use Rattle.bidi_controls.specs.ControlBytes.{holds_control}
use Rattle.bidi_controls.proofs.control_bytes.holds_control.Given as goal

-- the bytes before the rest hold none
pub record IsLeft (bytes rest : List ℕ) : Type 0 where
  pub same : holds_control rest ≡ holds_control bytes
  pub shorter : length rest ≤ length bytes

abbrev pub invariant-loop-at : goal.invariant-loop-at
invariant-loop-at l = IsLeft l.bytes l.rest

abbrev pub decreases-loop-at : goal.decreases-loop-at
decreases-loop-at l = length l.rest
