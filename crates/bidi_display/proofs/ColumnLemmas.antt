-- The clusters of a line in the order of the text, and the columns at their edges from left to right.
use Rattle.bidi_base.proofs.Common.{◌≡◌, ℕ, zero, suc, Bool, if◌then◌else◌, cases_Bool, ◌*◌, lt-ltb, le-ltb, ◌+◌, ◌-◌, ◌<◌, ◌≤◌, true, false, ltb, nat_lt, leb, leb-true, List, [], ◌∷◌, Some, None, length, map, get_or, drop, refl, inl, inr, cases_lt, sym, ap, ◌∙◌, add-zero, le_refl, arith, length-map, get_or-map, get_or-drop, get_or_default, length-drop, nat_tests, All-permutation, Contains, Contains-permutation, at_indexes, indexes}
use Rattle.std.specs.List.{take_while}
use Rattle.std.specs.List.Sorted.{IsNonDecreasingBy, IsPartitionPoint}
use Rattle.std.proofs.lemmas.List.Sums.{prefix_len_is}
use Rattle.std.proofs.lemmas.List.Folds.{length-prefix_len}
use Rattle.bidi_base.specs.Order.{visual_index}
use Rattle.bidi_base.proofs.Lists.{find-first, find-none}
use Rattle.bidi_laws.proofs.VisualOrderLemmas.{all_below, contains_index, visual_index-order}
use Rattle.bidi_lines.proofs.Ordered.{visual_order-is}
use Rattle.bidi_lines.proofs.Pieces.{at_indexes-map}
use Rattle.bidi_lines.proofs.RunLengths.{length-visual_order}
use Rattle.bidi_display.specs.Carets.{LaidOutLine, cluster_at_column, covers, halves_before, position_at, position_at_edge, position_by, position_in}
use Rattle.bidi_display.specs.declared.carets.Side.{Side}
use Rattle.bidi_display.specs.declared.carets.Side.TheVariants.{Left, Right}
use Rattle.bidi_display.specs.DisplayedLine.{AreClustersFrom, add_columns, cluster_order, edges, edges_from, left_edge, levels_of, max_columns, right_edge, starts}
use Rattle.bidi_display.specs.declared.line_cluster.LineCluster.{LineCluster}

-- ---- where the clusters start

-- each starts after the ones before it
pub starts-rise : (start end : ℕ) (clusters : List LineCluster) → AreClustersFrom start end clusters → (i n j : ℕ) → i + n ≡ j → j < length clusters
    → get_or (starts clusters) i 0 ≤ get_or (starts clusters) j 0
starts-rise start end clusters whole i zero j e fits = rw (← e, add-zero) (le_refl _)
starts-rise start end clusters whole i (suc n) j e fits =
    let before = starts-rise start end clusters whole i n (i + n) refl (omega arith) in
    let next : i + n + 1 ≡ j = omega arith in
    let up : get_or (starts clusters) (i + n) 0 < get_or (starts clusters) (i + n + 1) 0 = omega (arith, whole.not_empty (i + n), whole.adjacent (i + n)) in
    omega (arith, before, rw next at up)

pub starts-ascend : (start end : ℕ) (clusters : List LineCluster) → AreClustersFrom start end clusters → IsNonDecreasingBy (λ (k : LineCluster). k.start) clusters
starts-ascend start end clusters whole i j d order fits =
    let up = starts-rise start end clusters whole i (j - i) j (omega arith) fits in
    let at_i = get_or-map (λ (k : LineCluster). k.start) clusters i d 0 (omega arith) in
    let at_j = get_or-map (λ (k : LineCluster). k.start) clusters j d 0 fits in
    omega (arith, up, at_i, at_j)

abbrev pub no_cluster : LineCluster
no_cluster = record { start = 0; end = 0; chars_start = 0; chars_end = 0; level = 0; width = 0 }

-- how many start before a code unit
pub count-before : (clusters : List LineCluster) (unit n : ℕ) → n ≤ length clusters
    → IsPartitionPoint (λ (k : LineCluster). ltb k.start unit ≡ true) (λ k. ltb k.start unit ≡ false) clusters n
    → n ≡ length (take_while (λ (k : LineCluster). nat_lt k.start unit) clusters)
count-before clusters unit n fits point =
    sym (prefix_len_is (λ (k : LineCluster). ltb k.start unit) clusters n no_cluster fits (λ k below. point.0 k no_cluster (omega arith) below) (λ below. point.1 n no_cluster (le_refl n) below))
    ∙ sym (length-prefix_len (λ (k : LineCluster). ltb k.start unit) clusters)

-- ---- the edges

edges_from-above : (column : ℕ) (widths : List ℕ) (k : ℕ) → column ≤ max_columns → k ≤ length widths → column ≤ get_or (edges_from column widths) k 0
edges_from-above column [] zero small fits = omega arith
edges_from-above column [] (suc k) small fits = absurd (omega arith)
edges_from-above column (width ∷ widths) zero small fits = omega arith
edges_from-above column (width ∷ widths) (suc k) small fits = grind (arith, edges_from-above (add_columns column width) widths k)

edges_from-ascend : (column : ℕ) (widths : List ℕ) (i j : ℕ) → column ≤ max_columns → i ≤ j → j ≤ length widths
    → get_or (edges_from column widths) i 0 ≤ get_or (edges_from column widths) j 0
edges_from-ascend column [] zero zero small order fits = omega arith
edges_from-ascend column [] i (suc j) small order fits = absurd (omega arith)
edges_from-ascend column [] (suc i) zero small order fits = absurd (omega arith)
edges_from-ascend column (width ∷ widths) zero j small order fits = edges_from-above column (width ∷ widths) j small fits
edges_from-ascend column (width ∷ widths) (suc i) zero small order fits = absurd (omega arith)
edges_from-ascend column (width ∷ widths) (suc i) (suc j) small order fits = grind (arith, edges_from-ascend (add_columns column width) widths i j)

edges_from-first : (column : ℕ) (widths : List ℕ) → get_or (edges_from column widths) 0 0 ≡ column
edges_from-first column [] = refl
edges_from-first column (width ∷ widths) = refl

length-edges_from : (column : ℕ) (widths : List ℕ) → length (edges_from column widths) ≡ length widths + 1
length-edges_from column [] = omega arith
length-edges_from column (width ∷ widths) = omega (arith, length-edges_from (add_columns column width) widths)

module _ (clusters : List LineCluster) where
  pub length-cluster_order : length (cluster_order clusters) ≡ length clusters
  length-cluster_order = length-visual_order (levels_of clusters) ∙ length-map clusters (λ (k : LineCluster). k.level)

  pub cluster_order-below : (v : ℕ) → v < length clusters → get_or (cluster_order clusters) v 0 < length clusters
  cluster_order-below v fits =
      let long : length (levels_of clusters) ≡ length clusters = length-map clusters (λ (k : LineCluster). k.level) in
      let below = All-permutation (λ i. i < length (levels_of clusters)) (indexes (levels_of clusters)) (cluster_order clusters)
      (visual_order-is (levels_of clusters)).all_indexes (all_below (levels_of clusters)) v 0 (omega (arith, length-cluster_order)) in
      omega (arith, below, long)

  -- each cluster is in the order
  pub order-contains : (k : ℕ) → k < length clusters → Contains (cluster_order clusters) k
  order-contains k fits =
      let long : length (levels_of clusters) ≡ length clusters = length-map clusters (λ (c : LineCluster). c.level) in
      Contains-permutation (indexes (levels_of clusters)) (cluster_order clusters) k (visual_order-is (levels_of clusters)).all_indexes
      (contains_index (length (levels_of clusters)) k (omega (arith, long)))

  widths-long : length (at_indexes 0 (map (λ (k : LineCluster). k.width) clusters) (cluster_order clusters)) ≡ length clusters
  widths-long = grind (arith, at_indexes-map, length-map, length-cluster_order)

  pub length-edges : length (edges clusters) ≡ length clusters + 1
  unfolding edges
  length-edges = grind (arith, length-edges_from, widths-long)

  -- they do not fall from left to right
  pub edges-ascend : (i j : ℕ) → i ≤ j → j ≤ length clusters → get_or (edges clusters) i 0 ≤ get_or (edges clusters) j 0
  unfolding edges
  edges-ascend i j order fits = edges_from-ascend 0 _ i j (omega arith) order (omega (arith, widths-long))

  -- the visual index of the cluster at a visual index
  pub visual_index-cluster : (v : ℕ) → v < length clusters → visual_index (levels_of clusters) (get_or (cluster_order clusters) v 0) ≡ v
  visual_index-cluster v fits = visual_index-order (levels_of clusters) (cluster_order clusters) v (visual_order-is (levels_of clusters)) (omega (arith, length-cluster_order))

  pub left_edge-at : (v : ℕ) → v < length clusters → left_edge clusters (get_or (cluster_order clusters) v 0) ≡ get_or (edges clusters) v 0
  left_edge-at v fits = ap (λ x. get_or (edges clusters) x 0) (visual_index-cluster v fits)

  pub right_edge-at : (v : ℕ) → v < length clusters → right_edge clusters (get_or (cluster_order clusters) v 0) ≡ get_or (edges clusters) (v + 1) 0
  right_edge-at v fits = ap (λ x. get_or (edges clusters) (x + 1) 0) (visual_index-cluster v fits)

  pub edges-first : get_or (edges clusters) 0 0 ≡ 0
  unfolding edges
  edges-first = edges_from-first 0 _

  pub edges-next : (k : ℕ) → get_or (drop 1 (edges clusters)) k 0 ≡ get_or (edges clusters) (k + 1) 0
  edges-next k = let same : 1 + k ≡ k + 1 = omega arith in get_or-drop 1 (edges clusters) k 0 ∙ ap (λ x. get_or (edges clusters) x 0) same

  pub length-right_edges : length (drop 1 (edges clusters)) ≡ length clusters
  length-right_edges = omega (arith, length-drop 1 (edges clusters), length-edges)

  pub right_edges-ascend : IsNonDecreasingBy (λ (x : ℕ). x) (drop 1 (edges clusters))
  right_edges-ascend i j d order fits =
      let up = edges-ascend (i + 1) (j + 1) (omega arith) (omega (arith, length-right_edges)) in
      let at_i = get_or_default (drop 1 (edges clusters)) i d 0 (omega arith) ∙ edges-next i in
      let at_j = get_or_default (drop 1 (edges clusters)) j d 0 fits ∙ edges-next j in
      omega (arith, up, at_i, at_j)

  -- where a search over the right edges ends
  module _ (column n : ℕ) (point : IsPartitionPoint (λ (x : ℕ). leb x column ≡ true) (λ x. leb x column ≡ false) (drop 1 (edges clusters)) n) where
    pub passed_edges : (k : ℕ) → k < n → get_or (edges clusters) (k + 1) 0 ≤ column
    passed_edges k below = omega (arith, leb-true _ _ (point.0 k 0 (omega arith) below), edges-next k)

    pub next_edge : n < length clusters → column < get_or (edges clusters) (n + 1) 0
    next_edge fits =
        let failed = point.1 n 0 (le_refl n) (omega (arith, length-right_edges)) in
        grind (arith, nat_tests, failed, edges-next n)

-- ---- the cluster at a column

module _ (line : LaidOutLine) (column n : ℕ) (passed : (k : ℕ) → k < n → get_or (edges line.clusters) (k + 1) 0 ≤ column)
    (next : n < length line.clusters → column < get_or (edges line.clusters) (n + 1) 0) where
  -- the cluster that has n clusters at its left, where the right edges of those are at most the column, covers it
  pub left_of_column : n < length line.clusters → get_or (edges line.clusters) n 0 ≤ column
  left_of_column fits = elim (cases_lt 0 n) [
    | inl some ↦ let same : n - 1 + 1 ≡ n = omega arith in rw same at (passed (n - 1) (omega arith))
    | inr none ↦ let first : n ≡ 0 = omega arith in rw (first, edges-first line.clusters) (omega arith)
  ]

  covers-not : (k : ℕ) → k < n → k < length line.clusters → covers line column (get_or (cluster_order line.clusters) k 0) ≡ false
  covers-not k below fits = grind (arith, nat_tests, passed k below, right_edge-at line.clusters k fits)

  covers-here : n < length line.clusters → covers line column (get_or (cluster_order line.clusters) n 0) ≡ true
  covers-here fits = grind (arith, nat_tests, left_of_column fits, next fits, left_edge-at line.clusters n fits, right_edge-at line.clusters n fits)

  pub cluster_at_column-is : n < length line.clusters → Some (get_or (cluster_order line.clusters) n 0) ≡ cluster_at_column line column
  unfolding cluster_at_column
  cluster_at_column-is fits =
      sym (find-first (covers line column) (cluster_order line.clusters) n 0 (omega (arith, length-cluster_order line.clusters)) (covers-here fits) (λ k below. covers-not k below (omega arith)))

  pub cluster_at_column-none : length line.clusters ≤ n → None ≡ cluster_at_column line column
  unfolding cluster_at_column
  cluster_at_column-none all =
      sym (find-none (covers line column) (cluster_order line.clusters) 0 (λ k below. covers-not k (omega (arith, length-cluster_order line.clusters)) (omega (arith, length-cluster_order line.clusters))))

-- the halves of columns on both sides are compared by their columns
pub nearer-left_half : (column left right : ℕ) → left ≤ column → column < right → nat_lt (2 * column) (left + right) ≡ nat_lt (column - left) (right - column)
nearer-left_half column left right from below = elim (cases_lt (2 * column) (left + right)) [
  | inl nearer ↦ lt-ltb _ _ nearer ∙ sym (lt-ltb _ _ (omega arith))
  | inr further ↦ le-ltb _ _ further ∙ sym (le-ltb _ _ (omega arith))
]

pub nearer-right_half : (column left right : ℕ) → left ≤ column → column < right → nat_lt (2 * column + 1) (left + right) ≡ nat_lt (column - left + 1) (right - column)
nearer-right_half column left right from below = elim (cases_lt (2 * column + 1) (left + right)) [
  | inl nearer ↦ lt-ltb _ _ nearer ∙ sym (lt-ltb _ _ (omega arith))
  | inr further ↦ le-ltb _ _ further ∙ sym (le-ltb _ _ (omega arith))
]

-- a click on a half of a column, by the edges of the cluster that covers it
pub position_at-is : (line : LaidOutLine) (column n : ℕ) (half edge : Side) (is_left : Bool) → n < length line.clusters
    → Some (get_or (cluster_order line.clusters) n 0) ≡ cluster_at_column line column
    → nat_lt (halves_before column half) (get_or (edges line.clusters) n 0 + get_or (edges line.clusters) (n + 1) 0) ≡ is_left
    → edge ≡ (if is_left then Left else Right)
    → position_at_edge line (get_or (cluster_order line.clusters) n 0) edge ≡ position_at line column half
unfolding position_at
position_at-is line column n half edge is_left fits covered tested chosen =
    let k : ℕ = get_or (cluster_order line.clusters) n 0 in
    let sides : nat_lt (halves_before column half) (left_edge line.clusters k + right_edge line.clusters k) ≡ is_left =
    rw (left_edge-at line.clusters n fits, right_edge-at line.clusters n fits) tested in
    let here : position_in line column half k ≡ position_by line column half (cluster_at_column line column) = ap (position_by line column half) covered in
    elim (cases_Bool is_left) [
      | inl taken ↦ grind (arith, sides, here, chosen, taken)
      | inr other ↦ grind (arith, sides, here, chosen, other)
    ]
