-- The runs so far are copied.
use Rattle.bidi_base.proofs.Common.{◌≡◌, take}
use Rattle.bidi_explicit.proofs.prepare.sequence.IsolatingRunSequence.copied.Given as goal

abbrev pub invariant-loop-run : goal.invariant-loop-run
invariant-loop-run l = l.runs.items ≡ take l.run-index l.run-items
