use Rattle.bidi_base.proofs.Common.{◌≡◌, ◌≤◌}
use Rattle.bidi_shown.specs.Breaks.{up_to_space}
use Rattle.bidi_shown.proofs.breaks.up_to_space.Given as goal

abbrev pub invariant-loop-end : goal.invariant-loop-end
invariant-loop-end l = record {
  within : l.end ≤ l.fit;
  rest : up_to_space l.clusters l.end ≡ up_to_space l.clusters l.fit;
}

abbrev pub decreases-loop-end : goal.decreases-loop-end
decreases-loop-end l = l.end
