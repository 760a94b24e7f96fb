use Rattle.bidi_base.proofs.Common.{◌≡◌, ℕ, ◌<◌, ◌≤◌, ◌%◌, get_or, length, false, None, is_member}
use Rattle.bidi_base.proofs.data_source.bracket_starts.Given as goal

-- of the triples from `i` on, none below a start has a member with that byte
abbrev pub invariant-loop-i : goal.invariant-loop-i
invariant-loop-i l = record {
  fits : length l.starts ≡ 256;
  none_below : (c k : ℕ) → l.i ≤ k → k < get_or l.starts (c % 256) 0 → k < length l.brackets → is_member c (get_or l.brackets k (0, 0, None)) ≡ false;
}
