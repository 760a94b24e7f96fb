use Rattle.bidi_base.proofs.Common.{◌≡◌, ◌<◌, ℕ, false, is_kept_at}
use Rattle.bidi_plain.proofs.plain.run_sequences.next_kept.Given as goal

abbrev pub invariant-loop-p : goal.invariant-loop-p
invariant-loop-p l = (k : ℕ) → l.place < k → k < l.p → is_kept_at l.classes k ≡ false
