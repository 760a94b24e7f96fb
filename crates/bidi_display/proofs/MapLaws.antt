-- Laws of the maps of a displayed line: each is the inverse of its partner.
use Rattle.bidi_base.proofs.Common.{◌≡◌, ℕ, ◌+◌, ◌-◌, ◌<◌, ◌≤◌, nat_le, nat_lt, Some, length, get_or, indexes, slice_index, sym, ap, ◌∙◌, le_refl, arith, and_parts, leb-true, ltb-true, get_or_default, length-range_with_len, ◌↔◌}
use Rattle.bidi_base.specs.Order.{visual_index}
use Rattle.bidi_base.proofs.Lists.{find-index, find-passes}
use Rattle.bidi_display.specs.Carets.{LaidOutLine, cluster_at, cluster_at_column, covers, has_unit}
use Rattle.bidi_display.specs.DisplayedLine.{AreClustersFrom, cluster_order, ends, left_edge, levels_of, right_edge, starts}
use Rattle.bidi_display.proofs.BoundaryLemmas.{cluster_at-is, ends-rise, index-at, start-within}
use Rattle.bidi_display.proofs.ColumnLemmas.{cluster_at_column-is, cluster_order-below, edges-ascend, length-cluster_order, order-contains, visual_index-cluster}

-- ---- clusters and their visual indexes

module _ (line : LaidOutLine) where
  -- the cluster at the visual index of a cluster is that cluster
  pub cluster-at_visual_index : (k : ℕ) → k < length line.clusters
      → (visual_index (levels_of line.clusters) k < length line.clusters) × (get_or (cluster_order line.clusters) (visual_index (levels_of line.clusters) k) 0 ≡ k)
  cluster-at_visual_index k fits =
      let at = order-contains line.clusters k fits in
      let v = at.0 in
      let within : v < length line.clusters = omega (arith, at.1, length-cluster_order line.clusters) in
      let here : get_or (cluster_order line.clusters) v 0 ≡ k = sym (get_or_default (cluster_order line.clusters) v k 0 at.1) ∙ at.2 in
      let place : visual_index (levels_of line.clusters) k ≡ v = ap (visual_index (levels_of line.clusters)) (sym here) ∙ visual_index-cluster line.clusters v within in
      rw place (within, here)

-- ---- columns and the clusters that cover them

-- the k-th cluster covers a column
abbrev pub CoversColumn : LaidOutLine → ℕ → ℕ → Type 0
CoversColumn line k column = (k < length line.clusters) × (left_edge line.clusters k ≤ column) × (column < right_edge line.clusters k)

module _ (line : LaidOutLine) (column k : ℕ) where
  covers-from_cluster : cluster_at_column line column ≡ Some k → CoversColumn line k column
  unfolding cluster_at_column
  covers-from_cluster e =
      let parts = and_parts (nat_le (left_edge line.clusters k) column) (nat_lt column (right_edge line.clusters k)) (find-passes (covers line column) (cluster_order line.clusters) k e) in
      let at = find-index (covers line column) (cluster_order line.clusters) k 0 e in
      let fits = cluster_order-below line.clusters at.0 (omega (arith, at.1, length-cluster_order line.clusters)) in
      (rw at.2 at fits, leb-true _ _ parts.0, ltb-true _ _ parts.1)

  cluster-from_covers : CoversColumn line k column → cluster_at_column line column ≡ Some k
  cluster-from_covers h =
      let v = visual_index (levels_of line.clusters) k in
      let at = cluster-at_visual_index line k h.0 in
      sym (cluster_at_column-is line column v (λ j below. omega (arith, h.1, edges-ascend line.clusters (j + 1) v (omega arith) (omega (arith, at.0)))) (λ _. h.2) at.0)
      ∙ ap Some at.1

  -- the cluster at a column is the one that covers it
  pub cluster_at_column-covers : (cluster_at_column line column ≡ Some k) ↔ CoversColumn line k column
  cluster_at_column-covers = (covers-from_cluster, cluster-from_covers)

-- a cluster that has a width is at the column of its left edge
pub cluster_at_column-left_edge : (line : LaidOutLine) (k : ℕ) → k < length line.clusters → left_edge line.clusters k < right_edge line.clusters k
    → cluster_at_column line (left_edge line.clusters k) ≡ Some k
cluster_at_column-left_edge line k fits wide = cluster-from_covers line (left_edge line.clusters k) k (fits, le_refl _, wide)

-- ---- code units and the clusters that have them

-- the k-th cluster has a code unit
abbrev pub HasUnit : LaidOutLine → ℕ → ℕ → Type 0
HasUnit line k unit = (k < length line.clusters) × (slice_index (starts line.clusters) k ≤ unit) × (unit < slice_index (ends line.clusters) k)

module _ (line : LaidOutLine) (whole : AreClustersFrom line.start line.end line.clusters) (unit k : ℕ) where
  unit-from_cluster : cluster_at line unit ≡ Some k → HasUnit line k unit
  unfolding cluster_at
  unit-from_cluster e =
      let parts = and_parts (nat_le (slice_index (starts line.clusters) k) unit) (nat_lt unit (slice_index (ends line.clusters) k)) (find-passes (has_unit line unit) (indexes line.clusters) k e) in
      let at = find-index (has_unit line unit) (indexes line.clusters) k 0 e in
      let within : at.0 < length line.clusters = omega (arith, at.1, length-range_with_len 0 (length line.clusters)) in
      let same : at.0 ≡ k = sym (index-at line whole at.0 within) ∙ at.2 in
      (omega (arith, within, same), leb-true _ _ parts.0, ltb-true _ _ parts.1)

  -- the clusters before it end at its start or before it
  ends-before : k < length line.clusters → (j : ℕ) → j < k → get_or (ends line.clusters) j 0 ≤ get_or (starts line.clusters) k 0
  ends-before fits j below =
      let same : k - 1 + 1 ≡ k = omega arith in
      omega (arith, ends-rise line.start line.end line.clusters whole j (k - 1 - j) (k - 1) (omega arith) (omega arith), rw same at (whole.adjacent (k - 1) (omega arith)))

  cluster-from_unit : HasUnit line k unit → cluster_at line unit ≡ Some k
  cluster-from_unit h =
      sym (cluster_at-is line whole unit k (λ j below. omega (arith, h.1, ends-before h.0 j below)) (omega (arith, h.1, start-within line whole k h.0)) h.0 h.2)

  -- the cluster at a code unit is the one that has it
  pub cluster_at-unit : (cluster_at line unit ≡ Some k) ↔ HasUnit line k unit
  cluster_at-unit = (unit-from_cluster, cluster-from_unit)

-- each cluster is at its first code unit
pub cluster_at-start : (line : LaidOutLine) → AreClustersFrom line.start line.end line.clusters → (k : ℕ) → k < length line.clusters
    → cluster_at line (slice_index (starts line.clusters) k) ≡ Some k
cluster_at-start line whole k fits = cluster-from_unit line whole (slice_index (starts line.clusters) k) k (fits, le_refl _, whole.not_empty k fits)
