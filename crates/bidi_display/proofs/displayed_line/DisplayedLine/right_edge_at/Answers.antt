use Rattle.bidi_base.proofs.Common.{arith}
use Rattle.bidi_display.proofs.EdgesLemmas.{length-right_edges, right_edge-at}
use Rattle.bidi_display.proofs.displayed_line.DisplayedLine.right_edge_at.Goals as goal

pub index-requires : goal.index-requires
index-requires c =
    let s = c.args.self.now in
    omega (arith, length-right_edges s.lists.clusters.items s.lists.right_edges.items s.edges)

pub returns : goal.returns
returns c =
    let s = c.args.self.now in
    right_edge-at s.lists.clusters.items s.lists.right_edges.items s.edges c.args.visual c.index.result.now c.requires c.index.ensures
