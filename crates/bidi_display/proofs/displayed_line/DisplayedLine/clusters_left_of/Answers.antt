use Rattle.std.proofs.Common.{◌≡◌, ℕ, true, false, rules, sym, subst, leb, List, drop}
use Rattle.std.specs.List.Sorted.{IsPartitionedBy, IsPartitionPoint}
use Rattle.std.proofs.lemmas.List.Sorted.{IsPartitionPoint-from_clause, IsPartitionedBy-leb}
use Rattle.bidi_display.specs.DisplayedLine.{edges}
use Rattle.bidi_display.specs.Shown.{clusters}
use Rattle.bidi_display.proofs.ColumnLemmas.{length-right_edges, right_edges-ascend, passed_edges, next_edge}
use Rattle.bidi_display.proofs.displayed_line.DisplayedLine.clusters_left_of.Goals as goal

pub returns-clause-within : goal.returns-clause-within
returns-clause-within c = rw (← length-right_edges, ← c.right_edges.ensures) c.partition_point.ensures.bound

found : (c : goal.After-partition_point)
    → IsPartitionPoint (λ (x : ℕ). leb x c.args.column ≡ true) (λ x. leb x c.args.column ≡ false) (drop 1 (edges (clusters c.args.self.now))) c.partition_point.result
found c =
    let parted = subst (λ (xs : List ℕ). IsPartitionedBy (λ (x : ℕ). leb x c.args.column) xs) (sym c.right_edges.ensures)
    (IsPartitionedBy-leb (λ (x : ℕ). x) (drop 1 (edges (clusters c.args.self.now))) c.args.column (right_edges-ascend (clusters c.args.self.now))) in
    let point = IsPartitionPoint-from_clause (λ (x : ℕ). leb x c.args.column) _ _ c.partition_point.ensures.partitioned parted (λ a r q k. search rules) in
    subst (λ (xs : List ℕ). IsPartitionPoint (λ (x : ℕ). leb x c.args.column ≡ true) (λ x. leb x c.args.column ≡ false) xs c.partition_point.result) c.right_edges.ensures point

pub returns-clause-passed : goal.returns-clause-passed
returns-clause-passed c = passed_edges (clusters c.args.self.now) c.args.column c.partition_point.result (found c)

pub returns-clause-next : goal.returns-clause-next
returns-clause-next c = next_edge (clusters c.args.self.now) c.args.column c.partition_point.result (found c)
