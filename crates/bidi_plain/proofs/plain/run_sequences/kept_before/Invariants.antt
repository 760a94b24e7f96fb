use Rattle.bidi_base.proofs.Common.{◌≡◌, ◌<◌, ◌≤◌, ℕ, false, is_kept_at}
use Rattle.bidi_plain.proofs.plain.run_sequences.kept_before.Given as goal

-- none from here on is kept
abbrev pub invariant-loop-p : goal.invariant-loop-p
invariant-loop-p l = (k : ℕ) → l.p ≤ k → k < l.place → is_kept_at l.classes k ≡ false
