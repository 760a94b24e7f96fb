use Rattle.bidi_base.proofs.Common.{◌≡◌, ◌++◌, map, drop, at_indexes}
use Rattle.bidi_display.proofs.EdgesLemmas.{right_edges_from}
use Rattle.bidi_display.proofs.edges.find_right_edges.Given as goal

abbrev pub invariant-loop-index : goal.invariant-loop-index
invariant-loop-index l =
    l.right_edges.items ++ right_edges_from l.column (at_indexes 0 (map (λ k. k.width) l.clusters) (drop l.index-index l.order))
    ≡ right_edges_from 0 (at_indexes 0 (map (λ k. k.width) l.clusters) l.order)
