-- Laws of displayed lines: a click at the column of a caret, selections that add up, and lines whose levels are all even.
use Rattle.bidi_base.proofs.Common.{◌≡◌, ℕ, zero, suc, ◌+◌, ◌*◌, ◌-◌, ◌<◌, ◌≤◌, Bool, true, false, eqb, nat_lt, lt-ltb, eq-eqb, ne_eqb, if◌then◌else◌, List, [], ◌∷◌, Some, None, length, get_or, get_or_past, last_or, is_odd, refl, inl, inr, cases_Bool, cases_lt, sym, ap, subst, ◌∙◌, le_refl, add-one, arith, AnalysedText, Range, at_indexes, flat_map, has_rtl, indexes, length-map, list_any, map, range_with_len, subrange, ◌↔◌, ◌⊎◌, ◌&&◌, eqb-true, Run, and_from, and_parts, get_or_default, le-leb, leb-true, ltb-true, or_cases, or_left, or_right, prefix_len-le-length, slice_index}
use Rattle.std.proofs.lemmas.List.Folds.{Any-from_list_any, length-prefix_len, list_any-from_Any}
use Rattle.std.proofs.lemmas.Option.{same_Some}
use Rattle.std.specs.List.{Any}
use Rattle.bidi_base.specs.Order.{visual_index}
use Rattle.bidi_display.specs.Carets.{LaidOutLine, after_boundary, before_boundary, boundary_unit, caret, caret_at, clusters_before, column_of, covers, level_at, position_at, position_at_edge, position_at_end, position_by, selected_at, selected_columns}
use Rattle.bidi_display.specs.DisplayedLine.{AreClustersFrom, cluster_order, clusters_of, edges, ends, left_edge, levels_of, line_width, right_edge, starts}
use Rattle.bidi_display.specs.LineChars.{line_chars}
use Rattle.bidi_display.specs.LineClusters.{is_dropped}
use Rattle.bidi_display.specs.Shown.{Displays, chars, cluster_text, clusters, displayed_text, options}
use Rattle.bidi_display.specs.declared.carets.Affinity.{Affinity}
use Rattle.bidi_display.specs.declared.carets.Affinity.TheVariants.{Before, After}
use Rattle.bidi_display.specs.declared.carets.Caret.{Caret}
use Rattle.bidi_display.specs.declared.carets.Side.{Side}
use Rattle.bidi_display.specs.declared.carets.Side.TheVariants.{Left, Right}
use Rattle.bidi_display.specs.declared.carets.Position.{Position}
use Rattle.bidi_display.specs.declared.displayed_line.DisplayedLine.{DisplayedLine}
use Rattle.bidi_display.specs.declared.line_char.LineChar.{LineChar}
use Rattle.bidi_display.specs.declared.line_cluster.LineCluster.{LineCluster}
use Rattle.bidi_display.proofs.BoundaryLemmas.{boundary-cuts_none, boundary-first, boundary-last, caret-boundary}
use Rattle.bidi_display.proofs.ColumnLemmas.{cluster_at_column-is, cluster_at_column-none, cluster_order-below, edges-ascend, edges-first, left_edge-at, left_of_column, length-cluster_order, length-edges, order-contains, position_at-is}
use Rattle.bidi_display.proofs.CoverLemmas.{has_column, have_column, selected-have_column, selected-parts}
use Rattle.bidi_display.proofs.EvenLineLemmas.{at_indexes-all, cluster_order-still, clusters-even, displayed_part-plain, line_chars-chars, texts-joined}

-- ---- carets and clicks

-- there is a caret at a position
abbrev pub HasCaret : LaidOutLine → Position → Type 0
HasCaret line p = (c : Caret) × (caret line p.unit ≡ Some c)

-- there is a caret at a position, and on its side it has this column
abbrev pub HasColumn : LaidOutLine → Position → ℕ → Type 0
HasColumn line p column = (c : Caret) × (caret line p.unit ≡ Some c) × (column_of p.affinity c ≡ column)

-- ---- columns of carets are edges

last_or-is : (d : ℕ) (x : ℕ) (xs : List ℕ) → last_or d (x ∷ xs) ≡ get_or (x ∷ xs) (length xs) 0
last_or-is d x [] = refl
last_or-is d x (y ∷ xs) = last_or-is x y xs

last_or-at : (xs : List ℕ) (n : ℕ) → length xs ≡ n + 1 → last_or 0 xs ≡ get_or xs n 0
last_or-at [] n e = absurd (omega arith)
last_or-at (x ∷ xs) n e = let same : length xs ≡ n = omega arith in last_or-is 0 x xs ∙ ap (λ k. get_or (x ∷ xs) k 0) same

width-is : (clusters : List LineCluster) → line_width clusters ≡ get_or (edges clusters) (length clusters) 0
width-is clusters = last_or-at (edges clusters) (length clusters) (length-edges clusters)

-- a column is an edge of a cluster, or of a line without clusters
abbrev IsEdge : LaidOutLine → ℕ → Type 0
IsEdge line x = (j : ℕ) × (j ≤ length line.clusters) × (get_or (edges line.clusters) j 0 ≡ x)

module _ (line : LaidOutLine) where
  IsEdge-any : (j : ℕ) → IsEdge line (get_or (edges line.clusters) j 0)
  IsEdge-any j = elim (cases_lt (length line.clusters) j) [
    | inl past ↦ (0, omega arith, edges-first line.clusters ∙ sym (get_or_past (edges line.clusters) j 0 (omega (arith, length-edges line.clusters))))
    | inr within ↦ (j, within, refl)
  ]

  IsEdge-width : IsEdge line (line_width line.clusters)
  IsEdge-width = (length line.clusters, le_refl _, sym (width-is line.clusters))

  IsEdge-first : IsEdge line 0
  IsEdge-first = (0, omega arith, edges-first line.clusters)

  IsEdge-if : (b : Bool) (x y : ℕ) → IsEdge line x → IsEdge line y → IsEdge line (if b then x else y)
  IsEdge-if true x y h k = h
  IsEdge-if false x y h k = k

  IsEdge-left : (k : ℕ) → IsEdge line (left_edge line.clusters k)
  IsEdge-left k = IsEdge-any (visual_index (levels_of line.clusters) k)

  IsEdge-right : (k : ℕ) → IsEdge line (right_edge line.clusters k)
  IsEdge-right k = IsEdge-any (visual_index (levels_of line.clusters) k + 1)

  IsEdge-column : (affinity : Affinity) (k : ℕ) → IsEdge line (column_of affinity (caret_at line k))
  IsEdge-column Before zero = IsEdge-if (is_odd line.para_level) _ _ IsEdge-width IsEdge-first
  IsEdge-column Before (suc k) = IsEdge-if (is_odd (level_at line k)) _ _ (IsEdge-left k) (IsEdge-right k)
  IsEdge-column After k =
      IsEdge-if (eqb k (length line.clusters)) _ _ (IsEdge-if (is_odd line.para_level) _ _ IsEdge-first IsEdge-width)
      (IsEdge-if (is_odd (level_at line k)) _ _ (IsEdge-right k) (IsEdge-left k))

  some-if : (b : Bool) (x c : Caret) → (if b then Some x else None) ≡ Some c → x ≡ c
  some-if true x c e = same_Some x c e
  some-if false x c e = absurd (cc e)

  IsEdge-caret : (unit : ℕ) (affinity : Affinity) (c : Caret) → caret line unit ≡ Some c → IsEdge line (column_of affinity c)
  unfolding caret
  IsEdge-caret unit affinity c e = subst (λ d. IsEdge line (column_of affinity d)) (some-if _ _ c e) (IsEdge-column affinity (clusters_before line unit))

  -- ---- which cluster a click is on

  -- as many clusters from the left end at the column or left of it
  record IsPlace (column n : ℕ) : Type 0 where
    within : n ≤ length line.clusters
    passed : (k : ℕ) → k < n → get_or (edges line.clusters) (k + 1) 0 ≤ column
    next : n < length line.clusters → column < get_or (edges line.clusters) (n + 1) 0

  place-from : (column more n : ℕ) → n + more ≡ length line.clusters → ((k : ℕ) → k < n → get_or (edges line.clusters) (k + 1) 0 ≤ column) → (m : ℕ) × IsPlace column m
  place-from column zero n e passed = (n, record { within = omega arith; passed = passed; next = λ some. absurd (omega arith) })
  place-from column (suc more) n e passed = elim (cases_lt column (get_or (edges line.clusters) (n + 1) 0)) [
    | inl here ↦ (n, record { within = omega arith; passed = passed; next = λ _. here })
    | inr further ↦ place-from column more (n + 1) (omega arith) (λ k below. elim (cases_lt k n) [
      | inl before ↦ passed k before
      | inr last ↦ let same : n ≡ k = omega arith in rw same at further
    ])
  ]

  place : (column : ℕ) → (m : ℕ) × IsPlace column m
  place column = place-from column (length line.clusters) 0 (omega arith) (λ k below. absurd (omega arith))

  module _ (whole : AreClustersFrom line.start line.end line.clusters) where
    HasCaret-edge : (k : ℕ) (edge : Side) → k < length line.clusters → HasCaret line (position_at_edge line k edge)
    HasCaret-edge k Left fits = elim (cases_Bool (is_odd (level_at line k))) [
      | inl odd ↦ rw odd (caret_at line (k + 1), caret-boundary line whole (k + 1) (omega arith))
      | inr even ↦ rw even (caret_at line k, caret-boundary line whole k (omega arith))
    ]
    HasCaret-edge k Right fits = elim (cases_Bool (is_odd (level_at line k))) [
      | inl odd ↦ rw odd (caret_at line k, caret-boundary line whole k (omega arith))
      | inr even ↦ rw even (caret_at line (k + 1), caret-boundary line whole (k + 1) (omega arith))
    ]

    caret-start : caret line line.start ≡ Some (caret_at line 0)
    caret-start = rw (boundary-first line whole) at (caret-boundary line whole 0 (omega arith))

    caret-end : caret line line.end ≡ Some (caret_at line (length line.clusters))
    caret-end = rw (boundary-last line whole) at (caret-boundary line whole (length line.clusters) (le_refl _))

    HasCaret-end : (end : Side) → HasCaret line (position_at_end line end)
    HasCaret-end Left = elim (cases_Bool (is_odd line.para_level)) [
      | inl odd ↦ rw odd (_, caret-end)
      | inr even ↦ rw even (_, caret-start)
    ]
    HasCaret-end Right = elim (cases_Bool (is_odd line.para_level)) [
      | inl odd ↦ rw odd (_, caret-start)
      | inr even ↦ rw even (_, caret-end)
    ]

    HasCaret-if : (b : Bool) (p q : Position) → HasCaret line p → HasCaret line q → HasCaret line (if b then p else q)
    HasCaret-if true p q h k = h
    HasCaret-if false p q h k = k

    -- wherever a click is, there is a caret
    pub caret-at_click : (column : ℕ) (half : Side) → HasCaret line (position_at line column half)
    unfolding position_at
    caret-at_click column half =
        let n = (place column).0 in
        let h : IsPlace column n = (place column).1 in
        elim (cases_lt n (length line.clusters)) [
          | inl covered ↦
              let k = get_or (cluster_order line.clusters) n 0 in
              let below = cluster_order-below line.clusters n covered in
              subst (λ o. HasCaret line (position_by line column half o)) (cluster_at_column-is line column n h.passed h.next covered)
              (HasCaret-if _ (position_at_edge line k Left) (position_at_edge line k Right) (HasCaret-edge k Left below) (HasCaret-edge k Right below))
          | inr beside ↦
              subst (λ o. HasCaret line (position_by line column half o)) (cluster_at_column-none line column n h.passed h.next beside) (HasCaret-end Right)
        ]

    -- at the left edge of a cluster
    HasColumn-edge : (k : ℕ) → k < length line.clusters → HasColumn line (position_at_edge line k Left) (left_edge line.clusters k)
    HasColumn-edge k fits = elim (cases_Bool (is_odd (level_at line k))) [
      | inl odd ↦
          let column : before_boundary line (k + 1) ≡ left_edge line.clusters k = rw (add-one, odd) refl in
          rw odd (caret_at line (k + 1), caret-boundary line whole (k + 1) (omega arith), column)
      | inr even ↦
          let column : after_boundary line k ≡ left_edge line.clusters k = rw (ne_eqb k (length line.clusters) (λ e. omega arith), even) refl in
          rw even (caret_at line k, caret-boundary line whole k (omega arith), column)
    ]

    -- at the right end of the line
    HasColumn-end : HasColumn line (position_at_end line Right) (line_width line.clusters)
    HasColumn-end = elim (cases_Bool (is_odd line.para_level)) [
      | inl odd ↦
          let column : before_boundary line 0 ≡ line_width line.clusters = rw odd refl in
          rw odd (caret_at line 0, caret-start, column)
      | inr even ↦
          let column : after_boundary line (length line.clusters) ≡ line_width line.clusters = rw (eq-eqb (length line.clusters) (length line.clusters) refl, even) refl in
          rw even (caret_at line (length line.clusters), caret-end, column)
    ]

    HasColumn-click : (column : ℕ) → IsEdge line column → HasColumn line (position_at line column Left) column
    unfolding position_at
    HasColumn-click column edge =
        let n = (place column).0 in
        let h : IsPlace column n = (place column).1 in
        elim (cases_lt n (length line.clusters)) [
          | inl covered ↦
              let k = get_or (cluster_order line.clusters) n 0 in
              let low = left_of_column line column n h.passed h.next covered in
              let high = h.next covered in
              let is : get_or (edges line.clusters) n 0 ≡ column = elim (cases_lt n edge.0) [
                | inl right ↦ absurd (omega (arith, edge.2, high, edges-ascend line.clusters (n + 1) edge.0 (omega arith) edge.1))
                | inr left ↦ omega (arith, edge.2, low, edges-ascend line.clusters edge.0 n left (omega arith))
              ] in
              let halves : nat_lt (2 * column) (get_or (edges line.clusters) n 0 + get_or (edges line.clusters) (n + 1) 0) ≡ true = lt-ltb _ _ (omega (arith, is, high)) in
              let clicked = position_at-is line column n Left Left true covered (cluster_at_column-is line column n h.passed h.next covered) halves refl in
              subst (λ x. HasColumn line (position_at line column Left) x) (left_edge-at line.clusters n covered ∙ is)
              (subst (λ p. HasColumn line p (left_edge line.clusters k)) clicked (HasColumn-edge k (cluster_order-below line.clusters n covered)))
          | inr beside ↦
              let all : n ≡ length line.clusters = omega (arith, h.within) in
              let is : line_width line.clusters ≡ column = width-is line.clusters ∙ elim (cases_lt 0 n) [
                | inl some ↦
                    let same : n - 1 + 1 ≡ length line.clusters = omega (arith, all) in
                    omega (arith, edge.2, rw same at (h.passed (n - 1) (omega arith)), edges-ascend line.clusters edge.0 (length line.clusters) edge.1 (le_refl _))
                | inr none ↦ let same : edge.0 ≡ length line.clusters = omega (arith, all, edge.1) in rw (← same) edge.2
              ] in
              subst (λ x. HasColumn line (position_at line column Left) x) is
              (subst (λ o. HasColumn line (position_by line column Left o) (line_width line.clusters)) (cluster_at_column-none line column n h.passed h.next beside) HasColumn-end)
        ]

    -- a click on the left half of the column of a caret returns a position whose caret has this column on its side
    pub click-at_caret : (p : Position) (column : ℕ) → HasColumn line p column → HasColumn line (position_at line column Left) column
    click-at_caret p column h = HasColumn-click column (subst (IsEdge line) h.2 (IsEdge-caret p.unit p.affinity h.0 h.1))

-- ---- selections

-- a column is in one of these ranges
abbrev pub Covers : List Run → ℕ → Type 0
Covers ranges column = Any (λ r. (r.0 ≤ column) × (column < r.1)) ranges

-- a cluster covers a column, and some code unit of it is in a range
abbrev pub SelectedCovers : LaidOutLine → ℕ → ℕ → ℕ → Type 0
SelectedCovers line start end column =
    (k : ℕ) × (k < length line.clusters) × (selected_at line start end k ≡ true) × (left_edge line.clusters k ≤ column) × (column < right_edge line.clusters k)

-- a code unit is inside no cluster: it is the first one of a cluster, or outside the line
abbrev pub CutsNoCluster : LaidOutLine → ℕ → Type 0
CutsNoCluster line unit = (k : ℕ) → k < length line.clusters → (slice_index (ends line.clusters) k ≤ unit) ⊎ (unit ≤ slice_index (starts line.clusters) k)

Covers-from_test : (column : ℕ) (ranges : List Run) → have_column column ranges ≡ true → Covers ranges column
Covers-from_test column ranges e =
    let h = Any-from_list_any (has_column column) ranges e in
    let parts = and_parts _ _ h.4 in
    (h.0, h.1, h.2, h.3, (leb-true _ _ parts.0, ltb-true _ _ parts.1))

test-from_Covers : (column : ℕ) (ranges : List Run) → Covers ranges column → have_column column ranges ≡ true
test-from_Covers column ranges h = list_any-from_Any (has_column column) ranges (h.0, h.1, h.2, h.3, and_from _ _ (le-leb _ _ h.4.0) (lt-ltb _ _ h.4.1))

passed-if : (b : Bool) (x c : Caret) → (if b then Some x else None) ≡ Some c → b ≡ true
passed-if true x c e = refl
passed-if false x c e = absurd (cc e)

module _ (line : LaidOutLine) where
  SelectedCovers-from_test : (start end column : ℕ) → list_any (λ k. selected_at line start end k && covers line column k) (cluster_order line.clusters) ≡ true → SelectedCovers line start end column
  SelectedCovers-from_test start end column e =
      let h = Any-from_list_any (λ k. selected_at line start end k && covers line column k) (cluster_order line.clusters) e in
      let parts = and_parts _ _ h.4 in
      let covered = and_parts _ _ parts.1 in
      let here : get_or (cluster_order line.clusters) h.0 0 ≡ h.1 = get_or_default (cluster_order line.clusters) h.0 0 h.1 h.2 ∙ h.3 in
      let fits = cluster_order-below line.clusters h.0 (omega (arith, h.2, length-cluster_order line.clusters)) in
      (h.1, rw here at fits, parts.0, leb-true _ _ covered.0, ltb-true _ _ covered.1)

  test-from_SelectedCovers : (start end column : ℕ) → SelectedCovers line start end column → list_any (λ k. selected_at line start end k && covers line column k) (cluster_order line.clusters) ≡ true
  test-from_SelectedCovers start end column h =
      let at = order-contains line.clusters h.0 h.1 in
      list_any-from_Any (λ k. selected_at line start end k && covers line column k) (cluster_order line.clusters)
      (at.0, h.0, at.1, at.2, and_from _ _ h.2 (and_from _ _ (le-leb _ _ h.3) (lt-ltb _ _ h.4)))

  -- a column is in a selection exactly if a selected cluster covers it
  pub selection-covers : (start end column : ℕ) → Covers (selected_columns line start end) column ↔ SelectedCovers line start end column
  selection-covers start end column = (
    λ h. SelectedCovers-from_test start end column (sym (selected-have_column line start end column) ∙ test-from_Covers column (selected_columns line start end) h),
    λ h. Covers-from_test column (selected_columns line start end) (selected-have_column line start end column ∙ test-from_SelectedCovers start end column h),
  )

  module _ (whole : AreClustersFrom line.start line.end line.clusters) where
    -- the start of each cluster and the end of the line are inside no cluster
    pub boundary-cuts : (j : ℕ) → j ≤ length line.clusters → CutsNoCluster line (boundary_unit line j)
    boundary-cuts j within = boundary-cuts_none line whole j within

    -- nor is a code unit that has a caret
    pub caret-cuts : (unit : ℕ) (c : Caret) → caret line unit ≡ Some c → CutsNoCluster line unit
    unfolding caret
    caret-cuts unit c e =
        let j = clusters_before line unit in
        let within : j ≤ length line.clusters =
        omega (
          arith,
          length-prefix_len (λ (k : LineCluster). nat_lt k.start unit) line.clusters,
          prefix_len-le-length (λ (k : LineCluster). nat_lt k.start unit) line.clusters,
        ) in
        let tests = and_parts _ _ (passed-if _ (caret_at line j) c e) in
        subst (CutsNoCluster line) (eqb-true _ _ tests.1) (boundary-cuts j within)

    -- the selections of two neighbouring ranges have together the columns of the selection of both ranges, if the border is
    -- inside no cluster
    pub selections-add_up : (a b c column : ℕ) → a ≤ b → b ≤ c → CutsNoCluster line b
        → Covers (selected_columns line a c) column ↔ (Covers (selected_columns line a b) column ⊎ Covers (selected_columns line b c) column)
    selections-add_up a b c column first second cut =
        let parts = selected-parts line a b c first second column whole.not_empty cut in (
          λ h. elim (or_cases _ _ (sym parts ∙ test-from_Covers column (selected_columns line a c) h)) [
            | inl left ↦ inl (Covers-from_test column (selected_columns line a b) left)
            | inr right ↦ inr (Covers-from_test column (selected_columns line b c) right)
          ],
          λ h. Covers-from_test column (selected_columns line a c)
              (parts
              ∙ elim h [
                | inl left ↦ or_left _ _ (test-from_Covers column (selected_columns line a b) left)
                | inr right ↦ or_right _ _ (test-from_Covers column (selected_columns line b c) right)
              ]),
        )

-- ---- lines whose levels are all even

-- a line that has no character at an odd level
abbrev pub HasNoOddLevel : DisplayedLine → Type 0
HasNoOddLevel s = list_any (λ (c : LineChar). is_odd c.level) (chars s) ≡ false

-- each of its characters is displayed
abbrev pub DropsNone : DisplayedLine → Type 0
DropsNone s = list_any (is_dropped (options s).dropped) (chars s) ≡ false

module _ (width_of : List ℕ → ℕ) (a : AnalysedText) (level : ℕ) (range : Range ℕ) (s : DisplayedLine) (shown : Displays width_of a level range s) where
  -- its clusters are displayed in the order of the text
  pub order-of_even : HasNoOddLevel s → cluster_order (clusters s) ≡ indexes (clusters s)
  order-of_even even =
      cluster_order-still (clusters s) (ap (λ ks. has_rtl (levels_of ks)) (shown.clusters ∙ ap (clusters_of (options s) width_of) (sym shown.chars))
      ∙ clusters-even (options s) width_of (chars s) even)

  -- and if nothing is dropped, its text is displayed as it is
  pub text-of_even : HasNoOddLevel s → DropsNone s → (mirrored_of : ℕ → ℕ) → displayed_text mirrored_of s ≡ map (λ (c : LineChar). c.char) (chars s)
  unfolding displayed_text
  text-of_even even none mirrored_of =
      let texts = map (cluster_text (options s) mirrored_of (chars s)) (clusters s) in
      let long : length texts ≡ length (clusters s) = length-map (clusters s) (cluster_text (options s) mirrored_of (chars s)) in
      let order : cluster_order (clusters s) ≡ indexes texts = order-of_even even ∙ ap (range_with_len 0) (sym long) in
      let made : clusters s ≡ clusters_of (options s) width_of (chars s) = shown.clusters ∙ ap (clusters_of (options s) width_of) (sym shown.chars) in
      ap (λ ps. flat_map (λ (text : List ℕ). text) (at_indexes [] texts ps)) order
      ∙ ap (flat_map (λ (text : List ℕ). text)) (at_indexes-all [] texts)
      ∙ ap (λ ks. flat_map (λ (text : List ℕ). text) (map (cluster_text (options s) mirrored_of (chars s)) ks)) made
      ∙ texts-joined (options s) mirrored_of width_of (chars s)
      ∙ displayed_part-plain (options s) mirrored_of (chars s) even none

  -- these are the characters of the line in the text
  pub chars-of_line : map (λ (c : LineChar). c.char) (chars s) ≡ subrange a.len_of a.chars range.start range.end
  unfolding line_chars
  chars-of_line = ap (map (λ (c : LineChar). c.char)) shown.chars ∙ line_chars-chars a.len_of range.start (subrange a.len_of a.chars range.start range.end) _ _
