use Rattle.bidi_base.proofs.Common.{◌≡◌, ℕ, ◌<◌, length, get_or}
use Rattle.bidi_display.proofs.edges.find_places.Given as goal

abbrev pub invariant-loop-place : goal.invariant-loop-place
invariant-loop-place l = (length l.order ≡ length l.places.items) × ((k : ℕ) → k < l.place → get_or l.places.items (get_or l.order k 0) 0 ≡ k)
