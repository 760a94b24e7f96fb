use Rattle.bidi_base.proofs.Common.{◌≡◌, ◌≤◌, length, take}
use Rattle.bidi_shown.specs.Streams.{whole_lines}
use Rattle.bidi_shown.proofs.stream.whole_lines.Given as goal

abbrev pub invariant-loop-end : goal.invariant-loop-end
invariant-loop-end l = record {
  within : l.end ≤ length l.bytes;
  rest : whole_lines (take l.end l.bytes) ≡ whole_lines l.bytes;
}

abbrev pub decreases-loop-end : goal.decreases-loop-end
decreases-loop-end l = l.end
