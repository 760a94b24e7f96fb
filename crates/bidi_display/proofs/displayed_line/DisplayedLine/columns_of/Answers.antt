use Rattle.bidi_base.proofs.Common.{◌∙◌, ◌+◌, ap, get_or, arith}
use Rattle.bidi_display.specs.DisplayedLine.{edges}
use Rattle.bidi_display.proofs.EdgesLemmas.{length-places, place-is, place-within}
use Rattle.bidi_display.proofs.displayed_line.DisplayedLine.columns_of.Goals as goal

pub index-visual-requires : goal.index-visual-requires
index-visual-requires c =
    let s = c.args.self.now in
    omega (arith, length-places s.lists.clusters.items s.lists.order.items s.lists.places.items s.order s.places)

pub left_edge_at-requires : goal.left_edge_at-requires
left_edge_at-requires c =
    let s = c.args.self.now in
    place-within s.lists.clusters.items s.lists.order.items s.lists.places.items s.order s.places c.args.cluster c.index-visual.result.now c.requires c.index-visual.ensures

pub right_edge_at-requires : goal.right_edge_at-requires
right_edge_at-requires c =
    let s = c.args.self.now in
    place-within s.lists.clusters.items s.lists.order.items s.lists.places.items s.order s.places c.args.cluster c.index-visual.result.now c.requires c.index-visual.ensures

pub returns-clause-start : goal.returns-clause-start
returns-clause-start c =
    let s = c.args.self.now in
    c.left_edge_at.ensures
    ∙ ap (λ v. get_or (edges s.lists.clusters.items) v 0) (place-is s.lists.clusters.items s.lists.order.items s.lists.places.items s.order s.places c.args.cluster c.index-visual.result.now c.requires c.index-visual.ensures)

pub returns-clause-end : goal.returns-clause-end
returns-clause-end c =
    let s = c.args.self.now in
    c.right_edge_at.ensures
    ∙ ap (λ v. get_or (edges s.lists.clusters.items) (v + 1) 0) (place-is s.lists.clusters.items s.lists.order.items s.lists.places.items s.order s.places c.args.cluster c.index-visual.result.now c.requires c.index-visual.ensures)
