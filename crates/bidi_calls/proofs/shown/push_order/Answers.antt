use Rattle.bidi_base.proofs.Common.{◌∙◌, ◌++◌, [], ◌+◌, rules, ◌<◌, ◌≤◌, List, ℕ, length, get_or, map, refl, sym, ap, arith, flat_map, take_all, at_indexes, append_assoc, append-nil}
use Rattle.bidi_display.specs.DisplayedLine.{cluster_order}
use Rattle.bidi_display.specs.Shown.{chars, clusters, options}
use Rattle.bidi_display.proofs.ColumnLemmas.{length-cluster_order, cluster_order-below}
use Rattle.bidi_display.proofs.TextLemmas.{chars-ordered, chars-within}
use Rattle.bidi_calls.specs.ShownOrder.{shown_in, shown_order}
use Rattle.bidi_calls.proofs.ShownLemmas.{cluster-more, length-slice_range-le}
use Rattle.bidi_calls.proofs.shown.push_order.Goals as goal

pub offset_bounds-clusters-index : goal.offset_bounds-clusters-index
offset_bounds-clusters-index c =
    let within : get_or c.order-index-items.result.now c.loop-index.index-index 0 < length c.clusters.result.now =
    rw (c.clusters.ensures, c.order-index-items.ensures) (cluster_order-below (clusters c.args.line.now) c.loop-index.index-index (rw (c.order-index-items.ensures, length-cluster_order) at c.loop-index-test.true)) in
    omega arith

pub bounds-clusters-index : goal.bounds-clusters-index
bounds-clusters-index c =
    rw (c.clusters.ensures, c.order-index-items.ensures) (cluster_order-below (clusters c.args.line.now) c.loop-index.index-index (rw (c.order-index-items.ensures, length-cluster_order) at c.loop-index-test.true))

pub offset_bounds-chars-cluster : goal.offset_bounds-chars-cluster
offset_bounds-chars-cluster c =
    let fits = cluster_order-below (clusters c.args.line.now) c.loop-index.index-index (rw (c.order-index-items.ensures, length-cluster_order) at c.loop-index-test.true) in
    let read = rw (c.clusters.ensures, c.order-index-items.ensures) at c.index-clusters-index.is in
    let ordered = chars-ordered (chars c.args.line.now) (clusters c.args.line.now) _ c.index-clusters-index.result fits read c.args.line.now.chars_within in
    let within : c.index-clusters-index.result.chars_end ≤ length c.chars-in-loop-index.result.now = rw c.chars-in-loop-index.ensures (chars-within (chars c.args.line.now) (clusters c.args.line.now) _ c.index-clusters-index.result fits read c.args.line.now.chars_within) in
    omega arith

pub slice_bounds-chars-count : goal.slice_bounds-chars-count
slice_bounds-chars-count c =
    let fits = cluster_order-below (clusters c.args.line.now) c.loop-index.index-index (rw (c.order-index-items.ensures, length-cluster_order) at c.loop-index-test.true) in
    let read = rw (c.clusters.ensures, c.order-index-items.ensures) at c.index-clusters-index.is in
    chars-ordered (chars c.args.line.now) (clusters c.args.line.now) _ c.index-clusters-index.result fits read c.args.line.now.chars_within

pub slice_bounds-chars-start : goal.slice_bounds-chars-start
slice_bounds-chars-start c =
    let fits = cluster_order-below (clusters c.args.line.now) c.loop-index.index-index (rw (c.order-index-items.ensures, length-cluster_order) at c.loop-index-test.true) in
    let read = rw (c.clusters.ensures, c.order-index-items.ensures) at c.index-clusters-index.is in
    chars-ordered (chars c.args.line.now) (clusters c.args.line.now) _ c.index-clusters-index.result fits read c.args.line.now.chars_within

pub slice_bounds-chars-end : goal.slice_bounds-chars-end
slice_bounds-chars-end c =
    let fits = cluster_order-below (clusters c.args.line.now) c.loop-index.index-index (rw (c.order-index-items.ensures, length-cluster_order) at c.loop-index-test.true) in
    let read = rw (c.clusters.ensures, c.order-index-items.ensures) at c.index-clusters-index.is in
    let within : c.index-clusters-index.result.chars_end ≤ length c.chars-in-loop-index.result.now = rw c.chars-in-loop-index.ensures (chars-within (chars c.args.line.now) (clusters c.args.line.now) _ c.index-clusters-index.result fits read c.args.line.now.chars_within) in
    within

pub overflow_add-first : goal.overflow_add-first
overflow_add-first c =
    let fits = cluster_order-below (clusters c.args.line.now) c.loop-index.index-index (rw (c.order-index-items.ensures, length-cluster_order) at c.loop-index-test.true) in
    let read = rw (c.clusters.ensures, c.order-index-items.ensures) at c.index-clusters-index.is in
    let ordered = chars-ordered (chars c.args.line.now) (clusters c.args.line.now) _ c.index-clusters-index.result fits read c.args.line.now.chars_within in
    let within = chars-within (chars c.args.line.now) (clusters c.args.line.now) _ c.index-clusters-index.result fits read c.args.line.now.chars_within in
    let sum : c.args.first + c.index-clusters-index.result.chars_start ≤ c.args.first + length (chars c.args.line.now) = omega (arith, ordered, within) in
    let room = c.requires in
    search rules

pub push_indexes-requires : goal.push_indexes-requires
push_indexes-requires c =
    let fits = cluster_order-below (clusters c.args.line.now) c.loop-index.index-index (rw (c.order-index-items.ensures, length-cluster_order) at c.loop-index-test.true) in
    let read = rw (c.clusters.ensures, c.order-index-items.ensures) at c.index-clusters-index.is in
    let ordered = chars-ordered (chars c.args.line.now) (clusters c.args.line.now) _ c.index-clusters-index.result fits read c.args.line.now.chars_within in
    let within = chars-within (chars c.args.line.now) (clusters c.args.line.now) _ c.index-clusters-index.result fits read c.args.line.now.chars_within in
    let room = c.requires in
    let part = length-slice_range-le c.chars-in-loop-index.result.now c.index-clusters-index.result.chars_start c.index-clusters-index.result.chars_end in
    omega (arith, ordered, within, room, part)

pub loop-index-init : goal.loop-index-init
loop-index-init c = rw c.reserve.ensures.items (sym (append-nil c.args.out.now.items))

pub loop-index-preserved : goal.loop-index-preserved
loop-index-preserved c =
    let order : List ℕ = cluster_order (clusters c.args.line.now) in
    let x = c.index-clusters-index.result in
    let fits = cluster_order-below (clusters c.args.line.now) c.loop-index.index-index (rw (c.order-index-items.ensures, length-cluster_order) at c.loop-index-test.true) in
    let read = rw (c.clusters.ensures, c.order-index-items.ensures) at c.index-clusters-index.is in
    let inside : c.loop-index.index-index < length order = rw c.order-index-items.ensures at c.loop-index-test.true in
    let own : List ℕ = shown_in (options c.args.line.now) c.args.first (chars c.args.line.now) x in
    (rw (c.options-options.ensures, c.chars-in-loop-index.ensures) at c.in_ok-push_indexes.ensures)
    ∙ ap (λ (ks : List ℕ). ks ++ own) c.loop-index.invariant
    ∙ append_assoc c.args.out.now.items _ own
    ∙ ap (λ (ks : List ℕ). c.args.out.now.items ++ ks)
    (sym (cluster-more (shown_in (options c.args.line.now) c.args.first (chars c.args.line.now)) (clusters c.args.line.now) order c.loop-index.index-index _ x inside refl fits read))

pub returns : goal.returns
unfolding shown_order
returns c =
    let order : List ℕ = cluster_order (clusters c.args.line.now) in
    let all : length order ≤ c.loop-index.index-index = rw c.order-index-items.ensures at c.loop-index-test.false in
    c.loop-index.invariant
    ∙ ap (λ (ps : List ℕ). c.args.out.now.items ++ flat_map (λ (ks : List ℕ). ks) (at_indexes [] (map (shown_in (options c.args.line.now) c.args.first (chars c.args.line.now)) (clusters c.args.line.now)) ps))
    (take_all c.loop-index.index-index order all)
