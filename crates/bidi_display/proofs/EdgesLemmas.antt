-- The clusters from left to right, and the columns at their right edges.
use Rattle.bidi_base.proofs.Common.{◌≡◌, ◌≢◌, ℕ, ◌+◌, ◌<◌, List, [], ◌∷◌, ◌++◌, length, drop, map, get_or, refl, sym, ap, ◌∙◌, arith, eqb, AllPairs, IsPermutation}
use Rattle.bidi_base.proofs.Common.{zero, suc, ◌-◌, Option, Some, None, unwrap_or, subst, nil_from_length, slice_get, slice_get-get_or, slice_get_within, get_or_default, last_or, visual_order, visual_index, visual_indexes, AreInverse}
use Rattle.bidi_base.proofs.Common.{append_assoc, drop_more, get_or-map, drop_all, append-nil, length-map, range_with_len, length-range_with_len, get_or-range_with_len, All-permutation}
use Rattle.bidi_base.proofs.Common.{at_indexes, indexes}
use Rattle.bidi_base.proofs.PlacesLemmas.{last_or-slice_get}
use Rattle.std.proofs.lemmas.List.FromFn.{get_or-map-range_with_len}
use Rattle.std.proofs.lemmas.Bool.Decides.{Decides-eqb}
use Rattle.std.proofs.lemmas.Map.Keys.{IsDistinct-IsPermutation}
use Rattle.std.proofs.lemmas.Map.Made.{AllPairs-from_IsDistinct, IsDistinct-from_AllPairs}
use Rattle.bidi_laws.proofs.LayoutLemmas.{visual_indexes-inverse}
use Rattle.bidi_laws.proofs.StoredLemmas.{length-at_indexes}
use Rattle.bidi_laws.proofs.VisualOrderLemmas.{all_below}
use Rattle.bidi_lines.proofs.Ordered.{visual_order-is}
use Rattle.bidi_lines.proofs.RunLengths.{length-visual_order}
use Rattle.bidi_display.specs.DisplayedLine.{add_columns, edges_from, edges, levels_of, cluster_order, line_width}
use Rattle.bidi_display.specs.declared.line_cluster.LineCluster.{LineCluster}

-- ---- the order

-- a permutation of the numbers below n has no number twice
pub distinct : (n : ℕ) (order : List ℕ) → IsPermutation (range_with_len 0 n) order → AllPairs (λ x y. x ≢ y) order
distinct n order perm =
    AllPairs-from_IsDistinct Decides-eqb order (IsDistinct-IsPermutation eqb (λ x y. grind arith) (range_with_len 0 n) order perm
    (IsDistinct-from_AllPairs Decides-eqb (range_with_len 0 n) (λ i j d a b. grind (arith, length-range_with_len, get_or-range_with_len))))

length_levels : (clusters : List LineCluster) → length (levels_of clusters) ≡ length clusters
length_levels clusters = simp length-map

-- the order has one index for each cluster
pub length-cluster_order : (clusters : List LineCluster) → length (cluster_order clusters) ≡ length clusters
length-cluster_order clusters = length-visual_order (levels_of clusters) ∙ length_levels clusters

-- each index in the order is that of a cluster
pub order_below : (clusters : List LineCluster) (order : List ℕ) (i : ℕ) → order ≡ cluster_order clusters → i < length order → get_or order i 0 < length clusters
order_below clusters order i e within = rw e (omega (
  arith,
  All-permutation (λ (k : ℕ). k < length (levels_of clusters)) (indexes (levels_of clusters)) (cluster_order clusters) (visual_order-is (levels_of clusters)).all_indexes (all_below (levels_of clusters)) i 0 (omega (arith, ap length e)),
  length_levels clusters,
))

-- ---- the edges

-- the columns at the right edges of clusters of these widths, if the first one begins at a column
abbrev pub right_edges_from : ℕ → List ℕ → List ℕ
right_edges_from column widths = drop 1 (edges_from column widths)

right_edges_from-cons : (column width : ℕ) (widths : List ℕ) → right_edges_from column (width ∷ widths) ≡ add_columns column width ∷ right_edges_from (add_columns column width) widths
right_edges_from-cons column width [] = refl
right_edges_from-cons column width (w ∷ ws) = refl

-- one more of the clusters is passed
pub right_edges_from-more : (clusters : List LineCluster) (order : List ℕ) (i column next : ℕ) (found : List ℕ) (k : LineCluster) → i < length order
    → get_or order i 0 < length clusters → next ≡ add_columns column (get_or clusters (get_or order i 0) k).width
    → (found ++ next ∷ []) ++ right_edges_from next (at_indexes 0 (map (λ c. c.width) clusters) (drop (i + 1) order))
    ≡ found ++ right_edges_from column (at_indexes 0 (map (λ c. c.width) clusters) (drop i order))
right_edges_from-more clusters order i column next found k within below sum =
    let widths : List ℕ = map (λ c. c.width) clusters in
    let width : (get_or clusters (get_or order i 0) k).width ≡ get_or widths (get_or order i 0) 0 = sym (get_or-map (λ c. c.width) clusters (get_or order i 0) k 0 below) in
    let step : next ≡ add_columns column (get_or widths (get_or order i 0) 0) = sum ∙ ap (add_columns column) width in
    let rest = at_indexes 0 widths (drop (i + 1) order) in
    append_assoc found (next ∷ []) (right_edges_from next rest)
    ∙ ap (λ n. found ++ (n ∷ right_edges_from n rest)) step
    ∙ ap (λ t. found ++ t) (sym (right_edges_from-cons column (get_or widths (get_or order i 0) 0) rest))
    ∙ ap (λ o. found ++ right_edges_from column (at_indexes 0 widths o)) (sym (drop_more order i 0 within))

-- all are passed
pub right_edges_from-end : (widths order : List ℕ) (i column : ℕ) (found : List ℕ) → length order ≡ i
    → found ++ right_edges_from column (at_indexes 0 widths (drop i order)) ≡ found
right_edges_from-end widths order i column found end = rw (drop_all i order (omega arith)) (append-nil found)

-- ---- the edges of a line

edges_from-first : (column : ℕ) (widths : List ℕ) → edges_from column widths ≡ column ∷ right_edges_from column widths
edges_from-first column [] = refl
edges_from-first column (w ∷ ws) = refl

length-right_edges_from : (column : ℕ) (widths : List ℕ) → length (right_edges_from column widths) ≡ length widths
length-right_edges_from column [] = refl
length-right_edges_from column (w ∷ ws) = ap length (edges_from-first (add_columns column w) ws) ∙ ap suc (length-right_edges_from (add_columns column w) ws)

pub edges-first : (clusters : List LineCluster) → edges clusters ≡ 0 ∷ drop 1 (edges clusters)
unfolding edges
edges-first clusters = edges_from-first 0 (at_indexes 0 (map (λ k. k.width) clusters) (cluster_order clusters))

-- these are the columns at the right edges of the clusters of a line
module _ (clusters : List LineCluster) (right : List ℕ) (are : right ≡ drop 1 (edges clusters)) where
  pub length-right_edges : length right ≡ length clusters
  unfolding edges
  length-right_edges =
      ap length are ∙ length-right_edges_from 0 (at_indexes 0 (map (λ k. k.width) clusters) (cluster_order clusters))
      ∙ length-at_indexes 0 (map (λ k. k.width) clusters) (cluster_order clusters) ∙ length-cluster_order clusters

  all : edges clusters ≡ 0 ∷ right
  all = edges-first clusters ∙ ap (λ t. 0 ∷ t) (sym are)

  pub left_edge-first : 0 ≡ get_or (edges clusters) 0 0
  left_edge-first = sym (ap (λ t. get_or t 0 0) all)

  next_edge : (visual : ℕ) → visual ≢ 0 → get_or right (visual - 1) 0 ≡ get_or (edges clusters) visual 0
  next_edge zero some = absurd (some refl)
  next_edge (suc k) some = let e : suc k - 1 ≡ k = omega arith in ap (λ j. get_or right j 0) e ∙ sym (ap (λ t. get_or t (suc k) 0) all)

  pub left_edge-next : (visual column : ℕ) → visual ≢ 0 → visual < length clusters → column ≡ get_or right (visual - 1) column → column ≡ get_or (edges clusters) visual 0
  left_edge-next visual column some within read = read ∙ get_or_default right (visual - 1) column 0 (omega (arith, length-right_edges)) ∙ next_edge visual some

  pub right_edge-at : (visual column : ℕ) → visual < length clusters → column ≡ get_or right visual column → column ≡ get_or (edges clusters) (visual + 1) 0
  right_edge-at visual column within read =
      let e : (visual + 1) - 1 ≡ visual = omega arith in
      let some : visual + 1 ≢ 0 = omega arith in
      read ∙ get_or_default right visual column 0 (omega (arith, length-right_edges)) ∙ ap (λ j. get_or right j 0) (sym e) ∙ next_edge (visual + 1) some

  last-is : (o : Option ℕ) (xs : List ℕ) → o ≡ slice_get xs (length xs - 1) → unwrap_or o 0 ≡ last_or 0 xs
  last-is (Some x) xs e = sym (last_or-slice_get 0 xs x (sym e))
  last-is None [] e = refl
  last-is None (x ∷ xs) e = absurd (cc (e, slice_get-get_or (x ∷ xs) (length (x ∷ xs) - 1) 0 (omega arith)))

  pub line_width-last : (o : Option ℕ) → o ≡ slice_get right (length right - 1) → unwrap_or o 0 ≡ line_width clusters
  line_width-last o e = last-is o right e ∙ sym (ap (last_or 0) all)

-- the visual index of a cluster
module _ (clusters : List LineCluster) (order places : List ℕ) (of_line : order ≡ cluster_order clusters) (inverse : AreInverse order places) where
  pub length-places : length places ≡ length clusters
  length-places = sym inverse.same_len ∙ ap length of_line ∙ length-cluster_order clusters

  pub place-is : (k place : ℕ) → k < length clusters → place ≡ get_or places k place → place ≡ visual_index (levels_of clusters) k
  unfolding visual_indexes
  place-is k place within read =
      let levels = levels_of clusters in
      let long : length levels ≡ length clusters = length_levels clusters in
      let are = visual_indexes-inverse levels (cluster_order clusters) (visual_order-is levels) places (subst (λ o. AreInverse o places) of_line inverse) in
      read ∙ ap (λ t. get_or t k place) are ∙ get_or-map-range_with_len (visual_index levels) 0 (length levels) k k place (omega (arith, long)) (omega arith)

  pub place-within : (k place : ℕ) → k < length clusters → place ≡ get_or places k place → place < length clusters
  place-within k place within read =
      let here : k < length places = omega (arith, length-places) in
      omega (arith, read, get_or_default places k place 0 here, slice_get_within order (get_or places k 0) k (inverse.forth k here), ap length of_line, length-cluster_order clusters)

-- ---- a line with no clusters

pub none-order : (clusters : List LineCluster) (order : List ℕ) → clusters ≡ [] → order ≡ [] → order ≡ cluster_order clusters
unfolding visual_order
none-order clusters order e f = f ∙ sym (ap cluster_order e)

pub none-places : (order places : List ℕ) → order ≡ [] → places ≡ [] → AreInverse order places
none-places order places e f = rw (e, f) (record { same_len = refl; back = λ k within. absurd (omega arith); forth = λ k within. absurd (omega arith) })

pub none-edges : (clusters : List LineCluster) (right : List ℕ) → clusters ≡ [] → right ≡ [] → right ≡ drop 1 (edges clusters)
none-edges clusters right e f = grind (arith, length-right_edges clusters (drop 1 (edges clusters)) refl, nil_from_length)
