use Rattle.bidi_base.proofs.Common.{◌≡◌, map, take}
use Rattle.bidi_display.proofs.edges.collect_levels.Given as goal

abbrev pub invariant-loop-cluster : goal.invariant-loop-cluster
invariant-loop-cluster l = l.out.items ≡ map (λ k. k.level) (take l.cluster-index l.clusters)
