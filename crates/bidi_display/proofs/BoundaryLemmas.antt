-- Where the clusters of a line begin and end: the cluster that has a code unit, and the carets between clusters.
use Rattle.bidi_base.proofs.Common.{◌⊎◌, ◌≡◌, ℕ, zero, suc, ◌+◌, ◌-◌, ◌<◌, ◌≤◌, true, false, leb, leb-true, lt-ltb, le-ltb, le-leb, eq-eqb, ne_eqb, List, Some, None, length, get_or, get_or-map, get_or-range_with_len, length-range_with_len, indexes, refl, inl, inr, cases_lt, sym, ap, ◌∙◌, add-zero, le_refl, arith, nat_tests}
use Rattle.std.specs.List.Sorted.{IsNonDecreasingBy, IsPartitionPoint}
use Rattle.bidi_base.proofs.Lists.{find-first, find-none}
use Rattle.bidi_display.specs.Carets.{LaidOutLine, boundary_unit, caret, caret_at, cluster_at, clusters_before, has_unit}
use Rattle.bidi_display.specs.DisplayedLine.{AreClustersFrom, ends, starts}
use Rattle.bidi_display.specs.declared.line_cluster.LineCluster.{LineCluster}
use Rattle.bidi_display.proofs.ColumnLemmas.{count-before, no_cluster, starts-rise}

module _ (start end : ℕ) (clusters : List LineCluster) (whole : AreClustersFrom start end clusters) where
  -- each ends where the next one begins, so each ends after the ones before it
  pub ends-rise : (i n j : ℕ) → i + n ≡ j → j < length clusters → get_or (ends clusters) i 0 ≤ get_or (ends clusters) j 0
  ends-rise i zero j e fits = rw (← e, add-zero) (le_refl _)
  ends-rise i (suc n) j e fits =
      let before = ends-rise i n (i + n) refl (omega arith) in
      let next : i + n + 1 ≡ j = omega arith in
      let up : get_or (ends clusters) (i + n) 0 < get_or (ends clusters) (i + n + 1) 0 = omega (arith, whole.not_empty (i + n + 1), whole.adjacent (i + n)) in
      omega (arith, before, rw next at up)

  pub ends-ascend : IsNonDecreasingBy (λ (k : LineCluster). k.end) clusters
  ends-ascend i j d order fits =
      let up = ends-rise i (j - i) j (omega arith) fits in
      let at_i = get_or-map (λ (k : LineCluster). k.end) clusters i d 0 (omega arith) in
      let at_j = get_or-map (λ (k : LineCluster). k.end) clusters j d 0 fits in
      omega (arith, up, at_i, at_j)

-- where a search over the ends stops
module _ (clusters : List LineCluster) (unit n : ℕ) (point : IsPartitionPoint (λ (k : LineCluster). leb k.end unit ≡ true) (λ k. leb k.end unit ≡ false) clusters n) where
  pub passed_ends : n ≤ length clusters → (k : ℕ) → k < n → get_or (ends clusters) k 0 ≤ unit
  passed_ends fits k below =
      omega (arith, leb-true _ _ (point.0 k no_cluster (omega arith) below), get_or-map (λ (c : LineCluster). c.end) clusters k no_cluster 0 (omega arith))

  pub next_end : n < length clusters → unit < get_or (ends clusters) n 0
  next_end fits =
      let failed = point.1 n no_cluster (le_refl n) fits in
      grind (arith, nat_tests, failed, get_or-map (λ (c : LineCluster). c.end) clusters n no_cluster 0 fits)

module _ (line : LaidOutLine) (whole : AreClustersFrom line.start line.end line.clusters) where
  -- none begins before the line
  pub start-within : (k : ℕ) → k < length line.clusters → line.start ≤ get_or (starts line.clusters) k 0
  start-within k fits = omega (arith, whole.first (omega arith), starts-rise line.start line.end line.clusters whole 0 k k (omega arith) fits)

  pub index-at : (k : ℕ) → k < length line.clusters → get_or (indexes line.clusters) k 0 ≡ k
  index-at k fits = get_or-range_with_len 0 (length line.clusters) k 0 fits ∙ omega arith

  -- ---- the cluster that has a code unit

  module _ (unit n : ℕ) (passed : (k : ℕ) → k < n → get_or (ends line.clusters) k 0 ≤ unit) where
    has_unit-not : (k : ℕ) → k < n → k < length line.clusters → has_unit line unit (get_or (indexes line.clusters) k 0) ≡ false
    has_unit-not k below fits = rw (index-at k fits) (grind (arith, nat_tests, passed k below))

    -- the cluster after those that end at the code unit or before it
    starts_by : line.start ≤ unit → n < length line.clusters → get_or (starts line.clusters) n 0 ≤ unit
    starts_by from fits = elim (cases_lt 0 n) [
      | inl some ↦ let same : n - 1 + 1 ≡ n = omega arith in omega (arith, passed (n - 1) (omega arith), rw same at (whole.adjacent (n - 1) (omega arith)))
      | inr none ↦ let first : n ≡ 0 = omega arith in rw first (omega (arith, whole.first (omega arith)))
    ]

    pub cluster_at-is : line.start ≤ unit → n < length line.clusters → unit < get_or (ends line.clusters) n 0 → Some n ≡ cluster_at line unit
    unfolding cluster_at
    cluster_at-is from fits below =
        let here : has_unit line unit (get_or (indexes line.clusters) n 0) ≡ true = rw (index-at n fits) (grind (arith, nat_tests, starts_by from fits, below)) in
        sym (find-first (has_unit line unit) (indexes line.clusters) n 0 (omega (arith, length-range_with_len 0 (length line.clusters))) here (λ k before. has_unit-not k before (omega arith))
        ∙ ap Some (index-at n fits))

    pub cluster_at-after : length line.clusters ≤ n → None ≡ cluster_at line unit
    unfolding cluster_at
    cluster_at-after all =
        sym (find-none (has_unit line unit) (indexes line.clusters) 0
        (λ k below. has_unit-not k (omega (arith, length-range_with_len 0 (length line.clusters))) (omega (arith, length-range_with_len 0 (length line.clusters)))))

  has_unit-before : (unit : ℕ) → unit < line.start → (k : ℕ) → k < length line.clusters → has_unit line unit (get_or (indexes line.clusters) k 0) ≡ false
  has_unit-before unit before k fits = rw (index-at k fits) (grind (arith, nat_tests, start-within k fits))

  pub cluster_at-before : (unit : ℕ) → unit < line.start → None ≡ cluster_at line unit
  unfolding cluster_at
  cluster_at-before unit before =
      sym (find-none (has_unit line unit) (indexes line.clusters) 0 (λ k below. has_unit-before unit before k (omega (arith, length-range_with_len 0 (length line.clusters)))))

  -- ---- the carets between clusters

  boundary-start : (k : ℕ) → k < length line.clusters → boundary_unit line k ≡ get_or (starts line.clusters) k 0
  boundary-start k fits = rw (ne_eqb k (length line.clusters) (λ e. omega arith)) refl

  pub boundary-first : boundary_unit line 0 ≡ line.start
  boundary-first = elim (cases_lt 0 (length line.clusters)) [
    | inl some ↦ boundary-start 0 some ∙ whole.first some
    | inr none ↦ rw (eq-eqb 0 (length line.clusters) (omega arith)) (sym (whole.none (omega arith)))
  ]

  pub boundary-last : boundary_unit line (length line.clusters) ≡ line.end
  boundary-last = rw (eq-eqb (length line.clusters) (length line.clusters) refl) refl

  -- each cluster ends at the boundary after it
  boundary-end : (k : ℕ) → k < length line.clusters → boundary_unit line (k + 1) ≡ get_or (ends line.clusters) k 0
  boundary-end k fits = elim (cases_lt (k + 1) (length line.clusters)) [
    | inl more ↦ boundary-start (k + 1) more ∙ sym (whole.adjacent k more)
    | inr all ↦ let is : k + 1 ≡ length line.clusters = omega arith in rw (eq-eqb (k + 1) (length line.clusters) is) (sym (whole.last k is))
  ]

  -- the clusters before a boundary begin before it
  start-below : (i k : ℕ) → i < k → k ≤ length line.clusters → get_or (starts line.clusters) i 0 < boundary_unit line k
  start-below i k below fits =
      let same : k - 1 + 1 ≡ k = omega arith in
      omega (
        arith,
        starts-rise line.start line.end line.clusters whole i (k - 1 - i) (k - 1) (omega arith) (omega arith),
        whole.not_empty (k - 1) (omega arith),
        rw same at (boundary-end (k - 1) (omega arith)),
      )

  -- and the others do not
  start-above : (i k : ℕ) → k ≤ i → i < length line.clusters → boundary_unit line k ≤ get_or (starts line.clusters) i 0
  start-above i k order fits = omega (arith, boundary-start k (omega arith), starts-rise line.start line.end line.clusters whole k (i - k) i (omega arith) fits)

  clusters_before-boundary : (k : ℕ) → k ≤ length line.clusters → clusters_before line (boundary_unit line k) ≡ k
  clusters_before-boundary k fits = sym (count-before line.clusters (boundary_unit line k) k fits (
    λ i d _ below. lt-ltb _ _ (omega (arith, start-below i k below fits, get_or-map (λ (c : LineCluster). c.start) line.clusters i d 0 (omega arith))),
    λ i d order within. le-ltb _ _ (omega (arith, start-above i k order within, get_or-map (λ (c : LineCluster). c.start) line.clusters i d 0 within)),
  ))

  boundary-within : (k : ℕ) → k ≤ length line.clusters → line.start ≤ boundary_unit line k
  boundary-within k fits = elim (cases_lt 0 k) [
    | inl some ↦ omega (arith, start-below 0 k some fits, whole.first (omega arith))
    | inr none ↦ let first : k ≡ 0 = omega arith in rw first (omega (arith, boundary-first))
  ]

  -- there is a caret at each boundary
  pub caret-boundary : (k : ℕ) → k ≤ length line.clusters → caret line (boundary_unit line k) ≡ Some (caret_at line k)
  unfolding caret
  caret-boundary k fits =
      rw (clusters_before-boundary k fits, le-leb _ _ (boundary-within k fits), eq-eqb (boundary_unit line k) (boundary_unit line k) refl) refl

  -- each cluster is on one side of a boundary
  pub boundary-cuts_none : (j : ℕ) → j ≤ length line.clusters → (k : ℕ) → k < length line.clusters
      → (get_or (ends line.clusters) k 0 ≤ boundary_unit line j) ⊎ (boundary_unit line j ≤ get_or (starts line.clusters) k 0)
  boundary-cuts_none j within k fits = elim (cases_lt k j) [
    | inl before ↦
        let same : j - 1 + 1 ≡ j = omega arith in
        inl (omega (arith, ends-rise line.start line.end line.clusters whole k (j - 1 - k) (j - 1) (omega arith) (omega arith), rw same at (boundary-end (j - 1) (omega arith))))
    | inr after ↦ inr (start-above k j after fits)
  ]
