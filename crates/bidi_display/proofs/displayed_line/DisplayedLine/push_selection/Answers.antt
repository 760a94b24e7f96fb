use Rattle.std.proofs.Common.{refl, List, OnOk, ◌≤◌, subst, ◌≡◌, ◌≢◌, ◌<◌, length, map, get_or, sym, ◌∙◌, arith}
use Rattle.bidi_base.specs.Display.{Run, run_of}
use Rattle.bidi_display.specs.Carets.{selected_at}
use Rattle.bidi_display.specs.DisplayedLine.{cluster_order, edges}
use Rattle.bidi_display.specs.Shown.{clusters, laid_out}
use Rattle.bidi_display.proofs.ColumnLemmas.{length-cluster_order, cluster_order-below}
use Rattle.bidi_display.proofs.Extending.{Extends-same, Extends-trans}
use Rattle.bidi_display.proofs.SelectionLemmas.{IsSelectedTo, selected_at-is, selected-start, selected-skip, selected-touching, selected-apart, selected-end}
use Rattle.bidi_display.proofs.displayed_line.DisplayedLine.push_selection.Goals as goal
use Rattle.bidi_display.proofs.displayed_line.DisplayedLine.push_selection.Goals.{then-is_selected, then-left-open+in_ok-push_columns, else-left-open, else-is_selected}

pub loop-visual-init : goal.loop-visual-init
loop-visual-init c = record {
  selected = selected-start (laid_out c.args.self.now) c.args.range.start c.args.range.end _;
  extends = Extends-same _ _ refl;
}

pub offset_bounds-clusters-cluster : goal.offset_bounds-clusters-cluster
offset_bounds-clusters-cluster c =
    let within : get_or c.order-cluster-items.result.now c.loop-visual.visual 0 < length c.clusters.result.now =
    rw (c.clusters.ensures, c.order-cluster-items.ensures) (cluster_order-below (clusters c.args.self.now) c.loop-visual.visual (rw (c.order-cluster-items.ensures, length-cluster_order) at c.loop-visual-test.true)) in
    omega arith

pub bounds-clusters-cluster : goal.bounds-clusters-cluster
bounds-clusters-cluster c =
    rw (c.clusters.ensures, c.order-cluster-items.ensures) (cluster_order-below (clusters c.args.self.now) c.loop-visual.visual (rw (c.order-cluster-items.ensures, length-cluster_order) at c.loop-visual-test.true))

pub left_edge_at-left-requires : goal.left_edge_at-left-requires
left_edge_at-left-requires c = rw (c.order-cluster-items.ensures, length-cluster_order) at c.loop-visual-test.true

pub right_edge_at-requires : goal.right_edge_at-requires
right_edge_at-requires c = rw (c.order-cluster-items.ensures, length-cluster_order) at c.loop-visual-test.true

pub loop-visual-preserved : goal.loop-visual-preserved
loop-visual-preserved c =
    let line = laid_out c.args.self.now in
    let start = c.args.range.start in
    let end = c.args.range.end in
    let old = map run_of c.args.out.now.items in
    let v = c.loop-visual.visual in
    let a = c.loop-visual.open.start in
    let b = c.loop-visual.open.end in
    let out = map run_of c.loop-visual.out.items in
    let fits : v < length line.clusters = rw (c.order-cluster-items.ensures, length-cluster_order) at c.loop-visual-test.true in
    let k = get_or (cluster_order line.clusters) v 0 in
    let x = c.index-clusters-cluster.result in
    let read : x ≡ get_or line.clusters k x = rw (c.clusters.ensures, c.order-cluster-items.ensures) at c.index-clusters-cluster.is in
    let tested : selected_at line start end k ≡ c.is_selected.result = selected_at-is line start end k x (cluster_order-below line.clusters v fits) read ∙ sym c.is_selected.ensures in
    record {
      selected = elim c.if-is_selected.branch [
        | then-is_selected w ↦
            let taken = tested ∙ w.if-is_selected.true in
            let left = w.left_edge_at-left.ensures in
            let right = w.right_edge_at.ensures in
            let before : IsSelectedTo line start end old v w.if-left-open.open.start (get_or (edges line.clusters) v 0) (map run_of w.if-left-open.out.items) × (w.if-left-open.open.end ≡ get_or (edges line.clusters) v 0) =
            elim w.if-left-open.branch [
              | then-left-open+in_ok-push_columns w' ↦
                  let apart : b ≢ get_or (edges line.clusters) v 0 = λ e. w'.if-left-open.true (left ∙ sym e) in
                  rw (w'.open-is, w'.out-is, w'.in_ok-push_columns.ensures.columns, left) (selected-apart line start end old v a b out c.loop-visual.invariant.selected fits apart, refl)
              | else-left-open w' ↦ rw (w'.open-is, w'.out-is) (rw (← left, w'.if-left-open.false) c.loop-visual.invariant.selected, sym w'.if-left-open.false ∙ left)
            ] in
            rw (w.out-is, w.open-is, right) (selected-touching line start end old v w.if-left-open.open.start _ (map run_of w.if-left-open.out.items) before.0 fits taken refl)
        | else-is_selected w ↦ rw (w.out-is, w.open-is) (selected-skip line start end old v a b out c.loop-visual.invariant.selected fits (tested ∙ w.if-is_selected.false))
      ];
      extends = elim c.if-is_selected.branch [
        | then-is_selected w ↦ rw w.out-is (elim w.if-left-open.branch [
          | then-left-open+in_ok-push_columns w' ↦ rw w'.out-is (Extends-trans _ _ _ c.loop-visual.invariant.extends w'.in_ok-push_columns.ensures.extends)
          | else-left-open w' ↦ rw w'.out-is c.loop-visual.invariant.extends
        ])
        | else-is_selected w ↦ rw w.out-is c.loop-visual.invariant.extends
      ];
    }

pub returns-clause-columns : goal.returns-clause-columns
returns-clause-columns c =
    let all : length (clusters c.args.self.now) ≤ c.loop-visual.visual = rw (c.order-cluster-items.ensures, length-cluster_order) at c.loop-visual-test.false in
    subst (λ (runs : List Run). OnOk c.push_columns-2.result (map run_of c.push_columns-2.new.out.items ≡ runs))
    (selected-end (laid_out c.args.self.now) c.args.range.start c.args.range.end (map run_of c.args.out.now.items) c.loop-visual.visual c.loop-visual.open.start c.loop-visual.open.end
    (map run_of c.loop-visual.out.items) c.loop-visual.invariant.selected all)
    c.push_columns-2.ensures.columns
