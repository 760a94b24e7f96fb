use Rattle.bidi_base.proofs.Common.{◌≡◌}
use Rattle.bidi_shown.specs.Clusters.{width_of}
use Rattle.bidi_shown.proofs.cluster.width.Given as goal

abbrev pub invariant-loop-c : goal.invariant-loop-c
invariant-loop-c l = l.width ≡ width_of l.yielded
