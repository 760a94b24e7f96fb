use Rattle.std.proofs.Common.{◌≡◌, true, false, rules, sym, subst, leb, List, length, ◌≤◌}
use Rattle.std.specs.List.Sorted.{IsPartitionedBy, IsPartitionPoint}
use Rattle.std.proofs.lemmas.List.Sorted.{IsPartitionPoint-from_clause, IsPartitionedBy-leb}
use Rattle.bidi_display.specs.Shown.{clusters}
use Rattle.bidi_display.specs.declared.line_cluster.LineCluster.{LineCluster}
use Rattle.bidi_display.proofs.BoundaryLemmas.{ends-ascend, next_end, passed_ends}
use Rattle.bidi_display.proofs.displayed_line.DisplayedLine.clusters_ended.Goals as goal

within : (c : goal.After-partition_point) → c.partition_point.result ≤ length (clusters c.args.self.now)
within c = rw (← c.clusters.ensures) c.partition_point.ensures.bound

found : (c : goal.After-partition_point)
    → IsPartitionPoint (λ (k : LineCluster). leb k.end c.args.unit ≡ true) (λ k. leb k.end c.args.unit ≡ false) (clusters c.args.self.now) c.partition_point.result
found c =
    let ks = clusters c.args.self.now in
    let parted = subst (λ (xs : List LineCluster). IsPartitionedBy (λ (k : LineCluster). leb k.end c.args.unit) xs) (sym c.clusters.ensures)
    (IsPartitionedBy-leb (λ (k : LineCluster). k.end) ks c.args.unit (ends-ascend _ _ ks c.args.self.now.whole)) in
    let point = IsPartitionPoint-from_clause (λ (k : LineCluster). leb k.end c.args.unit) _ _ c.partition_point.ensures.partitioned parted (λ a r q k. search rules) in
    subst (λ (xs : List LineCluster). IsPartitionPoint (λ (k : LineCluster). leb k.end c.args.unit ≡ true) (λ k. leb k.end c.args.unit ≡ false) xs c.partition_point.result) c.clusters.ensures point

pub returns-clause-passed : goal.returns-clause-passed
returns-clause-passed c = passed_ends (clusters c.args.self.now) c.args.unit c.partition_point.result (found c) (within c)

pub returns-clause-next : goal.returns-clause-next
returns-clause-next c = next_end (clusters c.args.self.now) c.args.unit c.partition_point.result (found c)
