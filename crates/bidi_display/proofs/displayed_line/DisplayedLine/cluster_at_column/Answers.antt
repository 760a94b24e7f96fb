use Rattle.std.proofs.Common.{◌<◌, length, arith}
use Rattle.bidi_display.specs.Shown.{clusters}
use Rattle.bidi_display.proofs.ColumnLemmas.{length-cluster_order, cluster_order-below}
use Rattle.bidi_display.proofs.displayed_line.DisplayedLine.cluster_at_column.Goals as goal

pub offset_bounds-branch : goal.offset_bounds-branch
offset_bounds-branch c =
    let within : c.in_ok-visual_at_column.field-0 < length c.order.result.now = rw (c.order.ensures, length-cluster_order) c.in_ok-visual_at_column.ensures.within in
    omega arith

pub bounds-branch-branch : goal.bounds-branch-branch
bounds-branch-branch c = rw (c.order.ensures, length-cluster_order) c.in_ok-visual_at_column.ensures.within

pub returns-clause-within : goal.returns-clause-within
returns-clause-within c = rw c.order.ensures (cluster_order-below (clusters c.args.self.now) _ c.in_ok-visual_at_column.ensures.within)
