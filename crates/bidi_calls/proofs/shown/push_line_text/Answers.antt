use Rattle.bidi_base.proofs.Common.{◌∙◌, ◌++◌, [], ◌<◌, ◌≤◌, List, ℕ, length, get_or, map, refl, sym, ap, arith, flat_map, flat_map-append, take_all, at_indexes, append_assoc, append-nil}
use Rattle.bidi_display.specs.DisplayedLine.{cluster_order}
use Rattle.bidi_display.specs.Shown.{chars, clusters, cluster_text, displayed_text, options}
use Rattle.bidi_display.proofs.ColumnLemmas.{length-cluster_order, cluster_order-below}
use Rattle.bidi_display.proofs.TextLemmas.{chars-ordered, chars-within}
use Rattle.bidi_calls.proofs.ShownLemmas.{cluster-more}
use Rattle.bidi_calls.proofs.shown.push_line_text.Goals as goal

pub offset_bounds-clusters-index : goal.offset_bounds-clusters-index
offset_bounds-clusters-index g c =
    let within : get_or c.order-index-items.result.now c.loop-index.index-index 0 < length c.clusters.result.now =
    rw (c.clusters.ensures, c.order-index-items.ensures) (cluster_order-below (clusters c.args.line.now) c.loop-index.index-index (rw (c.order-index-items.ensures, length-cluster_order) at c.loop-index-test.true)) in
    omega arith

pub bounds-clusters-index : goal.bounds-clusters-index
bounds-clusters-index g c =
    rw (c.clusters.ensures, c.order-index-items.ensures) (cluster_order-below (clusters c.args.line.now) c.loop-index.index-index (rw (c.order-index-items.ensures, length-cluster_order) at c.loop-index-test.true))

pub offset_bounds-chars-cluster : goal.offset_bounds-chars-cluster
offset_bounds-chars-cluster g c =
    let fits = cluster_order-below (clusters c.args.line.now) c.loop-index.index-index (rw (c.order-index-items.ensures, length-cluster_order) at c.loop-index-test.true) in
    let read = rw (c.clusters.ensures, c.order-index-items.ensures) at c.index-clusters-index.is in
    let ordered = chars-ordered (chars c.args.line.now) (clusters c.args.line.now) _ c.index-clusters-index.result fits read c.args.line.now.chars_within in
    let within : c.index-clusters-index.result.chars_end ≤ length c.chars-in-loop-index.result.now = rw c.chars-in-loop-index.ensures (chars-within (chars c.args.line.now) (clusters c.args.line.now) _ c.index-clusters-index.result fits read c.args.line.now.chars_within) in
    omega arith

pub slice_bounds-chars-count : goal.slice_bounds-chars-count
slice_bounds-chars-count g c =
    let fits = cluster_order-below (clusters c.args.line.now) c.loop-index.index-index (rw (c.order-index-items.ensures, length-cluster_order) at c.loop-index-test.true) in
    let read = rw (c.clusters.ensures, c.order-index-items.ensures) at c.index-clusters-index.is in
    chars-ordered (chars c.args.line.now) (clusters c.args.line.now) _ c.index-clusters-index.result fits read c.args.line.now.chars_within

pub slice_bounds-chars-start : goal.slice_bounds-chars-start
slice_bounds-chars-start g c =
    let fits = cluster_order-below (clusters c.args.line.now) c.loop-index.index-index (rw (c.order-index-items.ensures, length-cluster_order) at c.loop-index-test.true) in
    let read = rw (c.clusters.ensures, c.order-index-items.ensures) at c.index-clusters-index.is in
    chars-ordered (chars c.args.line.now) (clusters c.args.line.now) _ c.index-clusters-index.result fits read c.args.line.now.chars_within

pub slice_bounds-chars-end : goal.slice_bounds-chars-end
slice_bounds-chars-end g c =
    let fits = cluster_order-below (clusters c.args.line.now) c.loop-index.index-index (rw (c.order-index-items.ensures, length-cluster_order) at c.loop-index-test.true) in
    let read = rw (c.clusters.ensures, c.order-index-items.ensures) at c.index-clusters-index.is in
    let within : c.index-clusters-index.result.chars_end ≤ length c.chars-in-loop-index.result.now = rw c.chars-in-loop-index.ensures (chars-within (chars c.args.line.now) (clusters c.args.line.now) _ c.index-clusters-index.result fits read c.args.line.now.chars_within) in
    within

pub loop-index-init : goal.loop-index-init
loop-index-init g c = rw c.reserve.ensures.items (sym (append-nil c.args.out.now.items))

pub loop-index-preserved : goal.loop-index-preserved
loop-index-preserved g c =
    let order : List ℕ = cluster_order (clusters c.args.line.now) in
    let x = c.index-clusters-index.result in
    let mirrored_of = g.M.MirroredCharacters.mirrored_of c.args.mirrors.now in
    let fits = cluster_order-below (clusters c.args.line.now) c.loop-index.index-index (rw (c.order-index-items.ensures, length-cluster_order) at c.loop-index-test.true) in
    let read = rw (c.clusters.ensures, c.order-index-items.ensures) at c.index-clusters-index.is in
    let inside : c.loop-index.index-index < length order = rw c.order-index-items.ensures at c.loop-index-test.true in
    let text_step = cluster-more (cluster_text (options c.args.line.now) mirrored_of (chars c.args.line.now)) (clusters c.args.line.now) order c.loop-index.index-index _ x inside refl fits read in
    let units = flat_map g.T.LineText.encode (cluster_text (options c.args.line.now) mirrored_of (chars c.args.line.now) x) in
    (rw (c.options-options.ensures, c.chars-in-loop-index.ensures) at c.in_ok-push_units.ensures)
    ∙ ap (λ (us : List _). us ++ units) c.loop-index.invariant
    ∙ append_assoc c.args.out.now.items _ units
    ∙ ap (λ (us : List _). c.args.out.now.items ++ us)
    (sym (ap (flat_map g.T.LineText.encode) text_step ∙ flat_map-append g.T.LineText.encode _ (cluster_text (options c.args.line.now) mirrored_of (chars c.args.line.now) x)))

pub returns : goal.returns
unfolding displayed_text
returns g c =
    let order : List ℕ = cluster_order (clusters c.args.line.now) in
    let all : length order ≤ c.loop-index.index-index = rw c.order-index-items.ensures at c.loop-index-test.false in
    c.loop-index.invariant
    ∙ ap (λ (ps : List ℕ). c.args.out.now.items ++ flat_map g.T.LineText.encode (flat_map (λ (text : List ℕ). text) (at_indexes [] (map (cluster_text (options c.args.line.now) (g.M.MirroredCharacters.mirrored_of c.args.mirrors.now) (chars c.args.line.now)) (clusters c.args.line.now)) ps)))
    (take_all c.loop-index.index-index order all)
