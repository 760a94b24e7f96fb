use Rattle.bidi_base.proofs.Common.{◌∙◌, ap, sym, get_or, arith}
use Rattle.bidi_display.specs.DisplayedLine.{edges}
use Rattle.bidi_display.proofs.EdgesLemmas.{length-right_edges, left_edge-first, left_edge-next}
use Rattle.bidi_display.proofs.displayed_line.DisplayedLine.left_edge_at.Goals as goal

pub index-requires : goal.index-requires
index-requires c =
    let s = c.args.self.now in
    omega (arith, length-right_edges s.lists.clusters.items s.lists.right_edges.items s.edges)

pub returns-then-visual-eq0 : goal.returns-then-visual-eq0
returns-then-visual-eq0 c =
    let s = c.args.self.now in
    left_edge-first s.lists.clusters.items s.lists.right_edges.items s.edges ∙ ap (λ v. get_or (edges s.lists.clusters.items) v 0) (sym c.if-visual-eq0.true)

pub returns-else-visual-eq0 : goal.returns-else-visual-eq0
returns-else-visual-eq0 c =
    let s = c.args.self.now in
    left_edge-next s.lists.clusters.items s.lists.right_edges.items s.edges c.args.visual c.index.result.now c.if-visual-eq0.false c.requires c.index.ensures
