use Rattle.bidi_base.proofs.Common.{◌∙◌, map, sym, ap, arith, rules, at_indexes}
use Rattle.bidi_display.specs.DisplayedLine.{edges}
use Rattle.bidi_display.proofs.EdgesLemmas.{order_below, right_edges_from, right_edges_from-more, right_edges_from-end}
use Rattle.bidi_display.proofs.edges.find_right_edges.Goals as goal

pub offset_bounds-clusters-index : goal.offset_bounds-clusters-index
offset_bounds-clusters-index c =
    let below = order_below c.args.clusters.now c.args.order.now c.loop-index.index-index c.requires c.loop-index-test.true in
    search rules

pub bounds-clusters-index : goal.bounds-clusters-index
bounds-clusters-index c = order_below c.args.clusters.now c.args.order.now c.loop-index.index-index c.requires c.loop-index-test.true

pub bounds-clusters-index-in-loop-index : goal.bounds-clusters-index-in-loop-index
bounds-clusters-index-in-loop-index c = order_below c.args.clusters.now c.args.order.now c.loop-index.index-index c.requires c.loop-index-test.true

pub loop-index-preserved : goal.loop-index-preserved
loop-index-preserved c =
    let below = order_below c.args.clusters.now c.args.order.now c.loop-index.index-index c.requires c.loop-index-test.true in
    rw c.in_ok-push.ensures.items (right_edges_from-more c.args.clusters.now c.args.order.now c.loop-index.index-index c.loop-index.column c.saturating_add-column.result c.loop-index.right_edges.items c.index-clusters-index.result
    c.loop-index-test.true below (c.saturating_add-column.ensures ∙ omega arith) ∙ c.loop-index.invariant)

pub returns : goal.returns
unfolding edges
returns c =
    sym (right_edges_from-end (map (λ k. k.width) c.args.clusters.now) c.args.order.now c.loop-index.index-index c.loop-index.column c.loop-index.right_edges.items (omega arith))
    ∙ c.loop-index.invariant
    ∙ ap (λ o. right_edges_from 0 (at_indexes 0 (map (λ k. k.width) c.args.clusters.now) o)) c.requires
