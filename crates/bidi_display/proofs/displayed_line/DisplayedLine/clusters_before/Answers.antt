use Rattle.std.proofs.Common.{◌≡◌, true, false, rules, sym, subst, ltb, List}
use Rattle.std.specs.List.Sorted.{IsPartitionedBy, IsPartitionPoint}
use Rattle.std.proofs.lemmas.List.Sorted.{IsPartitionPoint-from_clause, IsPartitionedBy-ltb}
use Rattle.bidi_display.specs.Shown.{clusters}
use Rattle.bidi_display.specs.declared.line_cluster.LineCluster.{LineCluster}
use Rattle.bidi_display.proofs.ColumnLemmas.{starts-ascend, count-before}
use Rattle.bidi_display.proofs.displayed_line.DisplayedLine.clusters_before.Goals as goal

pub returns-clause-count : goal.returns-clause-count
returns-clause-count c =
    let ks = clusters c.args.self.now in
    let parted = subst (λ (xs : List LineCluster). IsPartitionedBy (λ (k : LineCluster). ltb k.start c.args.unit) xs) (sym c.clusters.ensures)
    (IsPartitionedBy-ltb (λ (k : LineCluster). k.start) ks c.args.unit (starts-ascend _ _ ks c.args.self.now.whole)) in
    let point = IsPartitionPoint-from_clause (λ (k : LineCluster). ltb k.start c.args.unit) _ _ c.partition_point.ensures.partitioned parted (λ a r q k. search rules) in
    count-before ks c.args.unit c.partition_point.result (search rules)
    (subst (λ (xs : List LineCluster). IsPartitionPoint (λ (k : LineCluster). ltb k.start c.args.unit ≡ true) (λ k. ltb k.start c.args.unit ≡ false) xs c.partition_point.result) c.clusters.ensures point)
