use Rattle.bidi_base.proofs.Common.{◌≡◌, ℕ, ◌-◌, ◌<◌, ◌≤◌, length, slice_index}
use Rattle.bidi_lines.specs.ReversedUtf8.{reversed_byte_at, behind_two}
use Rattle.bidi_lines.proofs.line_text.reversed_utf8.reverse_ends.Given as goal

abbrev pub invariant-loop-at : goal.invariant-loop-at
invariant-loop-at l = record {
  reversed : (j : ℕ) → l.from ≤ j → j < l.at → slice_index l.out (length l.initial.out - 1 - j) ≡ reversed_byte_at (behind_two l.bytes) j;
  before : (j : ℕ) → j < l.from → j < length l.initial.out → slice_index l.out (length l.initial.out - 1 - j) ≡ slice_index l.initial.out (length l.initial.out - 1 - j);
  after : (j : ℕ) → l.at ≤ j → j < length l.initial.out → slice_index l.out (length l.initial.out - 1 - j) ≡ slice_index l.initial.out (length l.initial.out - 1 - j);
}
