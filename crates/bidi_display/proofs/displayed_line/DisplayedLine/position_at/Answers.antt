use Rattle.std.proofs.Common.{◌≡◌, ℕ, List, get_or, sym, ◌+◌, ◌≤◌, ◌<◌, ◌∙◌, if◌then◌else◌, nat_lt, ap, length, arith}
use Rattle.bidi_display.specs.Carets.{halves_before, position_at, position_at_edge, position_by}
use Rattle.bidi_display.specs.declared.carets.Side.TheVariants.{Left, Right}
use Rattle.bidi_display.specs.Shown.{clusters, laid_out}
use Rattle.bidi_display.proofs.ColumnLemmas.{length-cluster_order, cluster_order-below, position_at-is, nearer-left_half, nearer-right_half}
use Rattle.bidi_display.proofs.displayed_line.DisplayedLine.position_at.Goals as goal
use Rattle.bidi_display.proofs.displayed_line.DisplayedLine.position_at.Goals.{in-Left, in-Right, then-is_left, else-is_left}

pub returns-in_default : goal.returns-in_default
unfolding position_at
returns-in_default c = c.position_at_end.ensures ∙ ap (position_by (laid_out c.args.self.now) c.args.column c.args.half) c.in_default.ensures.cluster

pub offset_bounds-order-visual : goal.offset_bounds-order-visual
offset_bounds-order-visual c =
    let within : c.in-Some.visual < length c.order.result.now = rw (c.order.ensures, length-cluster_order) c.in-Some.ensures.within in
    omega arith

pub bounds-order-visual : goal.bounds-order-visual
bounds-order-visual c = rw (c.order.ensures, length-cluster_order) c.in-Some.ensures.within

pub position_at_edge-requires : goal.position_at_edge-requires
position_at_edge-requires c = rw c.order.ensures (cluster_order-below (clusters c.args.self.now) _ c.in-Some.ensures.within)

pub returns : goal.returns
returns c =
    let n = c.in-Some.visual in
    let line = laid_out c.args.self.now in
    let left = c.left_edge_at.result in
    let right = c.right_edge_at.result in
    let from : left ≤ c.args.column = omega (arith, c.left_edge_at.ensures, c.in-Some.ensures.left) in
    let below : c.args.column < right = omega (arith, c.right_edge_at.ensures, c.in-Some.ensures.right) in
    let tested : nat_lt (halves_before c.args.column c.args.half) (left + right) ≡ c.match-half.is_left = elim c.match-half.branch [
      | in-Left w ↦ rw w.in-Left.is (nearer-left_half c.args.column left right from below ∙ sym w.is_left-is)
      | in-Right w ↦ rw w.in-Right.is (nearer-right_half c.args.column left right from below ∙ sym w.is_left-is)
    ] in
    let chosen : c.if-is_left.position_at_edge ≡ (if c.match-half.is_left then Left else Right) = elim c.if-is_left.branch [
      | then-is_left w ↦ rw w.if-is_left.true w.position_at_edge-is
      | else-is_left w ↦ rw w.if-is_left.false w.position_at_edge-is
    ] in
    let k_is = ap (λ (xs : List ℕ). position_at_edge line (get_or xs n 0) c.if-is_left.position_at_edge) c.order.ensures in
    c.position_at_edge.ensures ∙ k_is
    ∙ position_at-is line c.args.column n c.args.half c.if-is_left.position_at_edge c.match-half.is_left c.in-Some.ensures.within c.in-Some.ensures.cluster
    (rw (← c.left_edge_at.ensures, ← c.right_edge_at.ensures) tested) chosen
