-- The columns of a selection, as a pass from left to right joins them.
use Rattle.bidi_base.proofs.Common.{◌≡◌, ◌≢◌, ℕ, zero, suc, ◌+◌, ◌-◌, ◌<◌, ◌≤◌, true, false, eqb, eq-eqb, ne_eqb, lt-ltb, le-ltb, cond, List, [], ◌∷◌, ◌++◌, length, map, filter, get_or, get_or-map, drop, drop-cons, drop_all, add-one, append_assoc, refl, sym, ap, ◌∙◌, inl, inr, cases_Bool, cases_order, le_refl, arith, Run, ⊤}
use Rattle.bidi_display.specs.Carets.{LaidOutLine, before_columns, is_selected, joined_columns, selected_at, selected_columns, some_columns}
use Rattle.bidi_display.specs.DisplayedLine.{cluster_order, edges, left_edge, right_edge}
use Rattle.bidi_display.specs.declared.line_cluster.LineCluster.{LineCluster}
use Rattle.bidi_display.proofs.ColumnLemmas.{edges-ascend, left_edge-at, length-cluster_order, right_edge-at}

-- ---- joined ranges

joined-empty : (a b : ℕ) (rs : List Run) → a ≡ b → joined_columns ((a, b) ∷ rs) ≡ joined_columns rs
joined-empty a b rs e = rw (eq-eqb a b e) refl

joined-some : (a b : ℕ) (rs : List Run) → a < b → joined_columns ((a, b) ∷ rs) ≡ before_columns (a, b) (joined_columns rs)
joined-some a b rs h = rw (ne_eqb a b (λ e. omega arith)) refl

before-touching : (a b c : ℕ) (rs : List Run) → before_columns (a, b) (before_columns (b, c) rs) ≡ before_columns (a, c) rs
before-touching a b c [] = rw (eq-eqb b b refl) refl
before-touching a b c (s ∷ rs) = elim (cases_Bool (eqb c s.0)) [
  | inl touches ↦ rw (touches, eq-eqb b b refl) refl
  | inr apart ↦ rw (apart, eq-eqb b b refl) refl
]

-- a range and one that touches it are one
joined-touching : (a b c : ℕ) (rs : List Run) → a ≤ b → b ≤ c → joined_columns ((a, b) ∷ (b, c) ∷ rs) ≡ joined_columns ((a, c) ∷ rs)
joined-touching a b c rs h k = elim (cases_order a b) [
  | inl same ↦ rw (joined-empty a b _ same, same) refl
  | inr (inl some) ↦ elim (cases_order b c) [
    | inl same ↦ rw (joined-some a b _ some, joined-empty b c rs same, ← same, joined-some a b rs some) refl
    | inr (inl more) ↦ rw (joined-some a b _ some, joined-some b c rs more, joined-some a c rs (omega arith)) (before-touching a b c (joined_columns rs))
    | inr (inr less) ↦ absurd (omega arith)
  ]
  | inr (inr less) ↦ absurd (omega arith)
]

-- ranges from left to right, from a column on
abbrev pub AreColumnsFrom : ℕ → List Run → Type 0
AreColumnsFrom low [] = ⊤
AreColumnsFrom low (r ∷ rs) = (low ≤ r.0) × (r.0 ≤ r.1) × AreColumnsFrom r.1 rs

AreColumnsFrom-lower : (low high : ℕ) (rs : List Run) → low ≤ high → AreColumnsFrom high rs → AreColumnsFrom low rs
AreColumnsFrom-lower low high [] order h = tt
AreColumnsFrom-lower low high (r ∷ rs) order h = (omega (arith, h.0), h.1, h.2)

-- they do not touch a range that ends before that column
before-apart : (a b low : ℕ) (rs : List Run) → b < low → AreColumnsFrom low rs → before_columns (a, b) (joined_columns rs) ≡ (a, b) ∷ joined_columns rs
before-apart a b low [] below h = refl
before-apart a b low (r ∷ rs) below h = elim (cases_order r.0 r.1) [
  | inl same ↦ rw (joined-empty r.0 r.1 rs same) (before-apart a b r.1 rs (omega (arith, h.0, h.1)) h.2)
  | inr (inl some) ↦ rw (joined-some r.0 r.1 rs some) (first (joined_columns rs))
  | inr (inr less) ↦ absurd (omega (arith, h.1))
]
  where
    first : (js : List Run) → before_columns (a, b) (before_columns r js) ≡ (a, b) ∷ before_columns r js
    first [] = rw (ne_eqb b r.0 (λ e. omega (arith, h.0))) refl
    first (s ∷ js) = elim (cases_Bool (eqb r.1 s.0)) [
      | inl touches ↦ rw (touches, ne_eqb b r.0 (λ e. omega (arith, h.0))) refl
      | inr apart ↦ rw (apart, ne_eqb b r.0 (λ e. omega (arith, h.0))) refl
    ]

joined-apart : (a b low : ℕ) (rs : List Run) → a ≤ b → b < low → AreColumnsFrom low rs → joined_columns ((a, b) ∷ rs) ≡ some_columns (a, b) ++ joined_columns rs
joined-apart a b low rs order below h = elim (cases_order a b) [
  | inl same ↦ rw (joined-empty a b rs same, le-ltb a b (omega arith)) refl
  | inr (inl some) ↦ rw (joined-some a b rs some, lt-ltb a b some) (before-apart a b low rs below h)
  | inr (inr less) ↦ absurd (omega arith)
]

joined-alone : (a b : ℕ) → a ≤ b → joined_columns ((a, b) ∷ []) ≡ some_columns (a, b)
joined-alone a b order = elim (cases_order a b) [
  | inl same ↦ rw (joined-empty a b [] same, le-ltb a b (omega arith)) refl
  | inr (inl some) ↦ rw (joined-some a b [] some, lt-ltb a b some) refl
  | inr (inr less) ↦ absurd (omega arith)
]

-- ---- the columns of the clusters from a visual index on

module _ (line : LaidOutLine) (start end : ℕ) where
  pub selected_at-is : (k : ℕ) (x : LineCluster) → k < length line.clusters → x ≡ get_or line.clusters k x → selected_at line start end k ≡ is_selected start end x
  selected_at-is k x fits e = get_or-map (is_selected start end) line.clusters k x false fits ∙ ap (is_selected start end) (sym e)

  abbrev columns_of : ℕ → Run
  columns_of k = (left_edge line.clusters k, right_edge line.clusters k)

  abbrev pub columns_from : ℕ → List Run
  columns_from v = map columns_of (filter (selected_at line start end) (drop v (cluster_order line.clusters)))

  columns_from-more : (v : ℕ) → v < length line.clusters
      → columns_from v ≡ cond (selected_at line start end (get_or (cluster_order line.clusters) v 0))
      ((get_or (edges line.clusters) v 0, get_or (edges line.clusters) (v + 1) 0) ∷ columns_from (v + 1)) (columns_from (v + 1))
  columns_from-more v fits =
      let cut = rw (← add-one) at (drop-cons (cluster_order line.clusters) v 0 (omega (arith, length-cluster_order line.clusters))) in
      let left = left_edge-at line.clusters v fits in
      let right = right_edge-at line.clusters v fits in
      elim (cases_Bool (selected_at line start end (get_or (cluster_order line.clusters) v 0))) [
        | inl taken ↦ rw (cut, taken, left, right) refl
        | inr left_out ↦ rw (cut, left_out) refl
      ]

  columns_from-none : (v : ℕ) → length line.clusters ≤ v → columns_from v ≡ []
  columns_from-none v all = rw (drop_all v (cluster_order line.clusters) (omega (arith, length-cluster_order line.clusters))) refl

  pub columns_from-ordered : (n v : ℕ) → v + n ≡ length line.clusters → AreColumnsFrom (get_or (edges line.clusters) v 0) (columns_from v)
  columns_from-ordered zero v e = rw (columns_from-none v (omega arith)) tt
  columns_from-ordered (suc n) v e =
      let rest = columns_from-ordered n (v + 1) (omega arith) in
      let up = edges-ascend line.clusters v (v + 1) (omega arith) (omega arith) in
      elim (cases_Bool (selected_at line start end (get_or (cluster_order line.clusters) v 0))) [
        | inl taken ↦ rw (columns_from-more v (omega arith), taken) (le_refl _, up, rest)
        | inr left_out ↦ rw (columns_from-more v (omega arith), left_out) (AreColumnsFrom-lower _ _ (columns_from (v + 1)) up rest)
      ]

  -- ---- the pass

  -- it has read the clusters before the visual index v, has appended the ranges `out`, which were `old` at first, and
  -- may go on with the range from a up to b
  pub record IsSelectedTo (old : List Run) (v a b : ℕ) (out : List Run) : Type 0 where
    pub ordered : a ≤ b
    pub before : b ≤ get_or (edges line.clusters) v 0
    pub joined : out ++ joined_columns ((a, b) ∷ columns_from v) ≡ old ++ selected_columns line start end

  pub selected-start : (old : List Run) → IsSelectedTo old 0 0 0 old
  unfolding selected_columns
  selected-start old = record {
    ordered = omega arith;
    before = omega arith;
    joined = refl;
  }

  module _ (old : List Run) (v a b : ℕ) (out : List Run) (at : IsSelectedTo old v a b out) where
    pub selected-skip : v < length line.clusters → selected_at line start end (get_or (cluster_order line.clusters) v 0) ≡ false → IsSelectedTo old (v + 1) a b out
    selected-skip fits left_out = record {
      ordered = at.ordered;
      before = omega (arith, at.before, edges-ascend line.clusters v (v + 1));
      joined = rw (columns_from-more v fits, left_out) at at.joined;
    }

    pub selected-touching : v < length line.clusters → selected_at line start end (get_or (cluster_order line.clusters) v 0) ≡ true → b ≡ get_or (edges line.clusters) v 0
        → IsSelectedTo old (v + 1) a (get_or (edges line.clusters) (v + 1) 0) out
    selected-touching fits taken touches =
        let up = edges-ascend line.clusters v (v + 1) (omega arith) (omega arith) in
        let more = columns_from-more v fits in
        record {
          ordered = omega (arith, at.ordered);
          before = le_refl _;
          joined = ap (λ js. out ++ js) (sym (joined-touching a b (get_or (edges line.clusters) (v + 1) 0) (columns_from (v + 1)) at.ordered (omega arith)))
              ∙ (rw (more, taken, ← touches) at at.joined);
        }

    pub selected-apart : v < length line.clusters → b ≢ get_or (edges line.clusters) v 0
        → IsSelectedTo old v (get_or (edges line.clusters) v 0) (get_or (edges line.clusters) v 0) (out ++ some_columns (a, b))
    selected-apart fits apart = record {
      ordered = le_refl _;
      before = le_refl _;
      joined =
          let low = get_or (edges line.clusters) v 0 in
          let rest = columns_from-ordered (length line.clusters - v) v (omega arith) in
          ap (λ js. (out ++ some_columns (a, b)) ++ js) (joined-empty low low (columns_from v) refl) ∙ append_assoc out (some_columns (a, b)) (joined_columns (columns_from v))
          ∙ ap (λ js. out ++ js) (sym (joined-apart a b low (columns_from v) at.ordered (omega (arith, at.before, apart)) rest)) ∙ at.joined;
    }

    pub selected-end : length line.clusters ≤ v → out ++ some_columns (a, b) ≡ old ++ selected_columns line start end
    selected-end all = ap (λ js. out ++ js) (sym (joined-alone a b at.ordered)) ∙ (rw (columns_from-none v all) at at.joined)
