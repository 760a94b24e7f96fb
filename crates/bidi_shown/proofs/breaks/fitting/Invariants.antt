use Rattle.bidi_base.proofs.Common.{◌≡◌, ◌≤◌, ◌+◌, drop}
use Rattle.bidi_shown.specs.Breaks.{fitting}
use Rattle.bidi_shown.proofs.breaks.fitting.Given as goal

abbrev pub invariant-loop-at : goal.invariant-loop-at
invariant-loop-at l = record {
  below : l.column ≤ l.limit;
  rest : l.at + fitting l.limit l.column (drop l.at l.clusters) ≡ fitting l.limit 0 l.clusters;
}
