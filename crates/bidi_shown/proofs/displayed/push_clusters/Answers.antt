use Rattle.bidi_base.proofs.Common.{◌∙◌, ◌++◌, ◌<◌, ◌≤◌, List, ℕ, append_assoc, length, get_or, refl, sym, ap, arith, flat_map, encode_utf8, string_bytes, take_all}
use Rattle.bidi_display.specs.DisplayedLine.{cluster_order}
use Rattle.bidi_display.specs.Shown.{chars, clusters}
use Rattle.bidi_display.proofs.ColumnLemmas.{length-cluster_order, cluster_order-below}
use Rattle.bidi_display.proofs.TextLemmas.{chars-ordered, chars-within}
use Rattle.bidi_shown.specs.Displayed.{spaced_cluster, spaced_text}
use Rattle.bidi_shown.proofs.DisplayedLemmas.{spaced-more, text_at}
use Rattle.bidi_shown.proofs.displayed.push_clusters.Goals as goal

pub offset_bounds-clusters-index : goal.offset_bounds-clusters-index
offset_bounds-clusters-index c =
    let within : get_or c.order-index-items.result.now c.loop-index.index-index 0 < length c.clusters.result.now =
    rw (c.clusters.ensures, c.order-index-items.ensures) (cluster_order-below (clusters c.args.line.now) c.loop-index.index-index (rw (c.order-index-items.ensures, length-cluster_order) at c.loop-index-test.true)) in
    omega arith

pub bounds-clusters-index : goal.bounds-clusters-index
bounds-clusters-index c =
    rw (c.clusters.ensures, c.order-index-items.ensures) (cluster_order-below (clusters c.args.line.now) c.loop-index.index-index (rw (c.order-index-items.ensures, length-cluster_order) at c.loop-index-test.true))

pub offset_bounds-chars-cluster : goal.offset_bounds-chars-cluster
offset_bounds-chars-cluster c =
    let fits = cluster_order-below (clusters c.args.line.now) c.loop-index.index-index (rw (c.order-index-items.ensures, length-cluster_order) at c.loop-index-test.true) in
    let read = rw (c.clusters.ensures, c.order-index-items.ensures) at c.index-clusters-index.is in
    let ordered = chars-ordered (chars c.args.line.now) (clusters c.args.line.now) _ c.index-clusters-index.result fits read c.args.line.now.chars_within in
    let within : c.index-clusters-index.result.chars_end ≤ length c.chars.result.now = rw c.chars.ensures (chars-within (chars c.args.line.now) (clusters c.args.line.now) _ c.index-clusters-index.result fits read c.args.line.now.chars_within) in
    omega arith

pub slice_bounds-chars-count : goal.slice_bounds-chars-count
slice_bounds-chars-count c =
    let fits = cluster_order-below (clusters c.args.line.now) c.loop-index.index-index (rw (c.order-index-items.ensures, length-cluster_order) at c.loop-index-test.true) in
    let read = rw (c.clusters.ensures, c.order-index-items.ensures) at c.index-clusters-index.is in
    chars-ordered (chars c.args.line.now) (clusters c.args.line.now) _ c.index-clusters-index.result fits read c.args.line.now.chars_within

pub slice_bounds-chars-start : goal.slice_bounds-chars-start
slice_bounds-chars-start c =
    let fits = cluster_order-below (clusters c.args.line.now) c.loop-index.index-index (rw (c.order-index-items.ensures, length-cluster_order) at c.loop-index-test.true) in
    let read = rw (c.clusters.ensures, c.order-index-items.ensures) at c.index-clusters-index.is in
    chars-ordered (chars c.args.line.now) (clusters c.args.line.now) _ c.index-clusters-index.result fits read c.args.line.now.chars_within

pub slice_bounds-chars-end : goal.slice_bounds-chars-end
slice_bounds-chars-end c =
    let fits = cluster_order-below (clusters c.args.line.now) c.loop-index.index-index (rw (c.order-index-items.ensures, length-cluster_order) at c.loop-index-test.true) in
    let read = rw (c.clusters.ensures, c.order-index-items.ensures) at c.index-clusters-index.is in
    let within : c.index-clusters-index.result.chars_end ≤ length c.chars.result.now = rw c.chars.ensures (chars-within (chars c.args.line.now) (clusters c.args.line.now) _ c.index-clusters-index.result fits read c.args.line.now.chars_within) in
    within

pub loop-index-preserved : goal.loop-index-preserved
loop-index-preserved c =
    let order : List ℕ = cluster_order (clusters c.args.line.now) in
    let fits = cluster_order-below (clusters c.args.line.now) c.loop-index.index-index (rw (c.order-index-items.ensures, length-cluster_order) at c.loop-index-test.true) in
    let read = rw (c.clusters.ensures, c.order-index-items.ensures) at c.index-clusters-index.is in
    let inside : c.loop-index.index-index < length order = rw c.order-index-items.ensures at c.loop-index-test.true in
    let step = spaced-more c.args.view (chars c.args.line.now) (clusters c.args.line.now) _ c.index-clusters-index.result fits read order c.loop-index.index-index inside refl in
    let part : List ℕ = flat_map encode_utf8 (spaced_cluster c.args.view (chars c.args.line.now) c.index-clusters-index.result) in
    (rw c.chars.ensures at c.in_ok-push_cluster.ensures)
    ∙ ap (λ (bytes : List ℕ). bytes ++ part) c.loop-index.invariant
    ∙ append_assoc (string_bytes c.args.out.now) _ part
    ∙ ap (λ (bytes : List ℕ). string_bytes c.args.out.now ++ bytes) (sym step)

pub returns : goal.returns
unfolding spaced_text
returns c =
    let order : List ℕ = cluster_order (clusters c.args.line.now) in
    let all : length order ≤ c.loop-index.index-index = rw c.order-index-items.ensures at c.loop-index-test.false in
    c.loop-index.invariant
    ∙ ap (λ (ps : List ℕ). string_bytes c.args.out.now ++ flat_map encode_utf8 (flat_map (text_at c.args.view (chars c.args.line.now) (clusters c.args.line.now)) ps)) (take_all c.loop-index.index-index order all)
