use Rattle.bidi_base.proofs.Common.{◌≡◌, ℕ, ◌<◌, get_or}
use Rattle.unicode_bidi.proofs.layout.is_in_order.Given as goal

abbrev pub invariant-loop-place : goal.invariant-loop-place
invariant-loop-place l = (k : ℕ) → k < l.place → get_or l.order k 0 ≡ k
