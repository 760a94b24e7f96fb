use Rattle.bidi_base.proofs.Common.{◌≡◌, reverse, vec_len}
use Rattle.bidi_controls.specs.OpenOpeners.{innermost_isolate, outside_isolate}
use Rattle.bidi_controls.proofs.openers.Openers.take_isolate.Given as goal

abbrev pub invariant-loop-opener : goal.invariant-loop-opener
invariant-loop-opener l = record {
  place : innermost_isolate (reverse l.entries.items) ≡ innermost_isolate (reverse l.fn.entries.items);
  left : outside_isolate (reverse l.entries.items) ≡ outside_isolate (reverse l.fn.entries.items);
}

abbrev pub decreases-loop-opener : goal.decreases-loop-opener
decreases-loop-opener l = vec_len l.entries
