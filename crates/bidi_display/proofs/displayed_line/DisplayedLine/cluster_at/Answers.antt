use Rattle.std.proofs.Common.{◌<◌, length, ap, arith}
use Rattle.bidi_display.specs.Shown.{clusters, laid_out}
use Rattle.bidi_display.proofs.BoundaryLemmas.{cluster_at-after, cluster_at-before, cluster_at-is}
use Rattle.bidi_display.proofs.displayed_line.DisplayedLine.cluster_at.Goals as goal
use Rattle.bidi_display.proofs.displayed_line.DisplayedLine.cluster_at.Goals.{then-unit-range-via-then-unit-range, then-unit-range-via-else-unit-range+then-cluster-clusters}

pub returns-then-unit-range-clause-cluster : goal.returns-then-unit-range-clause-cluster
returns-then-unit-range-clause-cluster c =
    let s = c.args.self.now in
    elim c.then-unit-range.branch [
      | then-unit-range-via-then-unit-range w ↦
          cluster_at-before (laid_out s) s.whole c.args.unit (omega (arith, w.if-unit-range.true, c.range.ensures.start))
      | then-unit-range-via-else-unit-range+then-cluster-clusters w ↦
          cluster_at-after (laid_out s) s.whole c.args.unit c.clusters_ended-cluster.result c.clusters_ended-cluster.ensures.passed
          (omega (arith, w.if-cluster-clusters.true, ap length w.clusters.ensures))
    ]

pub returns-clause-cluster : goal.returns-clause-cluster
returns-clause-cluster c =
    let s = c.args.self.now in
    let fits : c.clusters_ended-cluster.result < length (clusters s) =
    omega (arith, c.clusters_ended-cluster.ensures.within, c.if-cluster-clusters.false, ap length c.clusters.ensures) in
    cluster_at-is (laid_out s) s.whole c.args.unit c.clusters_ended-cluster.result c.clusters_ended-cluster.ensures.passed
    (omega (arith, c.if-unit-range.false, c.range.ensures.start)) fits (c.clusters_ended-cluster.ensures.next fits)
