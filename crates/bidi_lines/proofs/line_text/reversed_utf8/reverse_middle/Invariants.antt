use Rattle.bidi_base.proofs.Common.{◌≡◌, ℕ, ◌-◌, ◌<◌, ◌≤◌, length, slice_index}
use Rattle.bidi_lines.specs.ReversedUtf8.{reversed_byte_at, behind_two}
use Rattle.bidi_lines.proofs.line_text.reversed_utf8.reverse_middle.Given as goal

abbrev pub invariant-loop-at : goal.invariant-loop-at
invariant-loop-at l = record {
  begun : 2 ≤ l.at;
  reversed : (j : ℕ) → 2 ≤ j → j < l.at → slice_index l.out (length l.initial.out - 1 - j) ≡ reversed_byte_at (behind_two l.bytes) j;
}
