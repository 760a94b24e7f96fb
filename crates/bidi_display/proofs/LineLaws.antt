-- A law of the lines of a paragraph: where L2 moves characters, all of them are displayed, and a line may end after each,
-- `push_lines` cuts a paragraph as `layout::lines` does, by the widths of single characters.
use Rattle.bidi_base.proofs.Common.{◌≡◌, ℕ, zero, suc, ◌+◌, ◌-◌, ◌<◌, ◌≤◌, ◌==◌, false, nat_lt, lt-ltb, if◌then◌else◌, List, [], ◌∷◌, ◌++◌, length, map, take, drop, get_or, subst, sum_by-cons, All, All-head, All-tail, All-drop, refl, sym, ap, ◌∙◌, inl, inr, cases_Bool, cases_lt, append_assoc, length-append, length-map, drop-map, arith}
use Rattle.bidi_base.proofs.Common.{AnalysedText, Range, ranges_from, text_len, unit_index, line_levels_per_char, line_ranges, per_char, range_with_len, slice_range, subrange}
use Rattle.bidi_base.specs.declared.char_data.BidiClass.{BidiClass}
use Rattle.bidi_base.specs.declared.char_data.BidiClass.TheVariants.{L}
use Rattle.bidi_base.proofs.UnitIndexLemmas.{unit_index-more, unit_index-zero}
use Rattle.bidi_base.specs.Layout.{fitting, line_length, lines_of as layout_lines, lines_up_to as layout_lines_up_to}
use Rattle.bidi_laws.proofs.LayoutLemmas.{fitting-is}
use Rattle.bidi_display.specs.DisplayedLine.{add_columns, cluster_width, clusters_from, clusters_of, max_columns}
use Rattle.bidi_display.specs.LineBreaks.{chars_of, first_line_length, hangs, is_white_space, line_length_from, lines_of, lines_up_to, overflows, width_in_line}
use Rattle.bidi_display.specs.LineChars.{line_char_at, line_chars, line_chars_by}
use Rattle.bidi_display.specs.LineClusters.{clusters_after, line_clusters}
use Rattle.bidi_display.specs.Shown.{Displays, chars, clusters, laid_out, options}
use Rattle.bidi_display.specs.declared.displayed_line.DisplayedLine.{DisplayedLine}
use Rattle.bidi_display.specs.declared.line_breaks.Break.{Break}
use Rattle.bidi_display.specs.declared.line_breaks.Break.TheVariants.{Allowed}
use Rattle.bidi_display.specs.declared.line_char.LineChar.{LineChar}
use Rattle.bidi_display.specs.declared.line_cluster.LineCluster.{LineCluster}
use Rattle.bidi_display.specs.declared.options.DisplayOptions.{DisplayOptions}
use Rattle.bidi_display.specs.declared.options.Dropped.TheVariants.{Nothing}
use Rattle.bidi_display.specs.declared.options.Moves.TheVariants.{Characters}
use Rattle.bidi_display.proofs.EvenLineLemmas.{line_chars-chars, slice-middle}

-- characters move by themselves, all of them are displayed, and there are no tab stops
abbrev pub by_characters : DisplayOptions
by_characters = record { moves = Characters; dropped = Nothing; tab = 0 }

-- a line may end after each cluster
abbrev pub anywhere : List LineChar → Break
anywhere cluster = Allowed

-- ---- each character is a cluster

abbrev singles : List LineChar → List (List LineChar)
singles cs = map (λ (c : LineChar). c ∷ []) cs

clusters-singles : (before cs : List LineChar) → clusters_after by_characters before cs ≡ singles cs
clusters-singles before [] = refl
clusters-singles before (c ∷ []) = refl
clusters-singles before (c ∷ d ∷ cs) = ap (λ (rest : List (List LineChar)). (c ∷ []) ∷ rest) (clusters-singles (c ∷ before) (d ∷ cs))

module _ (width_of : List ℕ → ℕ) where
  -- the width of a character by itself
  abbrev pub width_alone : ℕ → ℕ
  width_alone c = width_of (c ∷ [])

  width-single : (column : ℕ) (c : LineChar) → cluster_width by_characters width_of column (c ∷ []) ≡ width_alone c.char
  width-single column c = elim (cases_Bool (c.char == 0x09)) [
    | inl tab ↦ rw tab refl
    | inr other ↦ rw other refl
  ]

  -- of the characters of a line, this one is a cluster
  record IsSingle (all : List LineChar) (c : LineChar) (k : LineCluster) : Type 0 where
    pub alone : chars_of all k ≡ c ∷ []
    pub width : k.width ≡ width_alone c.char
    pub end : k.end ≡ c.end

  abbrev AreSingles : List LineChar → List LineChar → List LineCluster → Type 0
  AreSingles all [] [] = Unit {0}
  AreSingles all [] (k ∷ ks) = ⊥
  AreSingles all (c ∷ cs) [] = ⊥
  AreSingles all (c ∷ cs) (k ∷ ks) = IsSingle all c k × AreSingles all cs ks

  singles-clusters : (all done cs : List LineChar) (at column : ℕ) → at ≡ length done → all ≡ done ++ cs → AreSingles all cs (clusters_from by_characters width_of at column (singles cs))
  singles-clusters all done [] at column here whole = tt
  singles-clusters all done (c ∷ cs) at column here whole =
      let alone : slice_range all at (at + 1) ≡ c ∷ [] = rw (whole, here) (slice-middle done (c ∷ []) cs) in
      let first : IsSingle all c _ = record { alone = alone; width = width-single column c; end = refl } in (
        first,
        singles-clusters all (done ++ c ∷ []) cs (at + 1) (add_columns column (cluster_width by_characters width_of column (c ∷ [])))
            (omega (arith, here, length-append done (c ∷ []))) (whole ∙ sym (append_assoc done (c ∷ []) cs)),
      )

  AreSingles-drop : (all : List LineChar) (n : ℕ) (cs : List LineChar) (ks : List LineCluster) → AreSingles all cs ks → AreSingles all (drop n cs) (drop n ks)
  AreSingles-drop all zero cs ks same = same
  AreSingles-drop all (suc n) [] [] same = tt
  AreSingles-drop all (suc n) [] (k ∷ ks) same = absurd same
  AreSingles-drop all (suc n) (c ∷ cs) [] same = absurd same
  AreSingles-drop all (suc n) (c ∷ cs) (k ∷ ks) same = AreSingles-drop all n cs ks same.1

  length-singles : (all cs : List LineChar) (ks : List LineCluster) → AreSingles all cs ks → length ks ≡ length cs
  length-singles all [] [] same = refl
  length-singles all [] (k ∷ ks) same = absurd same
  length-singles all (c ∷ cs) [] same = absurd same
  length-singles all (c ∷ cs) (k ∷ ks) same = ap suc (length-singles all cs ks same.1)

  -- ---- how many characters the first line has

  module _ (limit : ℕ) where
    -- a character that is no wider than a line, and no white space
    abbrev pub IsNarrow : LineChar → Type 0
    IsNarrow c = (width_alone c.char ≤ limit) × (is_white_space c.class ≡ false)

    -- how many characters fit from a column
    abbrev fitted : ℕ → List LineChar → ℕ
    fitted column [] = 0
    fitted column (c ∷ cs) = if nat_lt limit (column + width_alone c.char) then 0 else suc (fitted (column + width_alone c.char) cs)

    fitted-more : (column : ℕ) (c : LineChar) (cs : List LineChar) → column + width_alone c.char ≤ limit → fitted column (c ∷ cs) ≡ suc (fitted (column + width_alone c.char) cs)
    fitted-more column c cs within = grind (arith, within)

    fitted-none : (column : ℕ) (c : LineChar) (cs : List LineChar) → limit < column + width_alone c.char → fitted column (c ∷ cs) ≡ 0
    fitted-none column c cs over = rw (lt-ltb limit (column + width_alone c.char) over) refl

    abbrev codes_of : List LineChar → List ℕ
    codes_of cs = map (λ (c : LineChar). c.char) cs

    abbrev sum : ℕ → List LineChar → ℕ
    sum n cs = unit_index width_alone (codes_of cs) n

    fitted-within : (column : ℕ) (cs : List LineChar) → fitted column cs ≤ length cs
    fitted-within column [] = omega arith
    fitted-within column (c ∷ cs) = elim (cases_lt limit (column + width_alone c.char)) [
      | inl over ↦ omega (arith, fitted-none column c cs over)
      | inr under ↦ omega (arith, fitted-more column c cs under, fitted-within (column + width_alone c.char) cs)
    ]

    sum-more : (n : ℕ) (c : LineChar) (cs : List LineChar) → sum (suc n) (c ∷ cs) ≡ width_alone c.char + sum n cs
    sum-more n c cs = sum_by-cons width_alone c.char (take n (codes_of cs))

    fitted-sum : (column : ℕ) (cs : List LineChar) → column ≤ limit → column + sum (fitted column cs) cs ≤ limit
    fitted-sum column [] low = omega (arith, low)
    fitted-sum column (c ∷ cs) low = elim (cases_lt limit (column + width_alone c.char)) [
      | inl over ↦ rw (fitted-none column c cs over) (omega (arith, low))
      | inr under ↦ omega (arith, ap (λ n. sum n (c ∷ cs)) (fitted-more column c cs under), sum-more (fitted (column + width_alone c.char) cs) c cs, fitted-sum (column + width_alone c.char) cs under)
    ]

    fitted-full : (column : ℕ) (cs : List LineChar) → fitted column cs < length cs → limit < column + sum (suc (fitted column cs)) cs
    fitted-full column [] some = absurd (omega (arith, some))
    fitted-full column (c ∷ cs) some = elim (cases_lt limit (column + width_alone c.char)) [
      | inl over ↦ omega (arith, over, ap (λ n. sum (suc n) (c ∷ cs)) (fitted-none column c cs over), sum-more 0 c cs)
      | inr under ↦ omega (
        arith,
        ap (λ n. sum (suc n) (c ∷ cs)) (fitted-more column c cs under),
        sum-more (suc (fitted (column + width_alone c.char) cs)) c cs,
        fitted-full (column + width_alone c.char) cs (omega (arith, some, fitted-more column c cs under)),
      )
    ]

    fitting-fitted : (cs : List LineChar) → fitting width_alone limit (codes_of cs) ≡ fitted 0 cs
    fitting-fitted cs =
        let n : ℕ = fitted 0 cs in
        let long : length (codes_of cs) ≡ length cs = length-map cs (λ (c : LineChar). c.char) in
        let next : suc n ≡ n + 1 = omega arith in
        fitting-is width_alone limit (codes_of cs) n (omega (arith, long, fitted-within 0 cs)) (omega (arith, fitted-sum 0 cs (omega arith)))
        (λ short. omega (arith, fitted-full 0 cs (omega (arith, short, long)), ap (λ (m : ℕ). sum m cs) next))

    line_length-fitted : (c : LineChar) (cs : List LineChar) → IsNarrow c → line_length width_alone limit (codes_of (c ∷ cs)) ≡ fitted 0 (c ∷ cs)
    line_length-fitted c cs narrow = omega (arith, fitting-fitted (c ∷ cs), fitted-more 0 c cs (omega (arith, narrow.0)))

    -- ---- and how many clusters

    overflows-is : limit < max_columns → (column width : ℕ) → column ≤ limit → width ≤ limit → overflows limit column false width (add_columns column width) ≡ nat_lt limit (column + width)
    overflows-is below column width low narrow = elim (cases_lt limit (column + width)) [
      | inl over ↦
          let wide : limit < add_columns column width = omega (arith, below, over) in
          rw (lt-ltb 0 column (omega (arith, over, narrow)), lt-ltb 0 width (omega (arith, over, low)), lt-ltb limit (add_columns column width) wide, lt-ltb limit (column + width) over) refl
      | inr under ↦ grind (arith, under, below)
    ]

    add_columns-is : limit < max_columns → (column width : ℕ) → column + width ≤ limit → add_columns column width ≡ column + width
    add_columns-is below column width within = omega (arith, below, within)

    width-alone : (all : List LineChar) (column : ℕ) (c : LineChar) (k : LineCluster) → IsSingle all c k → width_in_line by_characters all column k ≡ width_alone c.char
    width-alone all column c k single = elim (cases_Bool (c.char == 0x09)) [
      | inl tab ↦ rw (single.alone, tab) single.width
      | inr other ↦ rw (single.alone, other) single.width
    ]

    hangs-not : (all : List LineChar) (c : LineChar) (k : LineCluster) → IsSingle all c k → IsNarrow c → hangs all k ≡ false
    hangs-not all c k single narrow = rw (single.alone, narrow.1) refl

    length-from : limit < max_columns → (all : List LineChar) (index column : ℕ) (cs : List LineChar) (ks : List LineCluster) → AreSingles all cs ks → All IsNarrow cs → column ≤ limit
        → line_length_from by_characters anywhere limit all index column index ks ≡ index + fitted column cs
    length-from below all index column [] [] same narrow low = omega arith
    length-from below all index column [] (k ∷ ks) same narrow low = absurd same
    length-from below all index column (c ∷ cs) [] same narrow low = absurd same
    length-from below all index column (c ∷ cs) (k ∷ ks) same narrow low =
        let here : IsNarrow c = All-head IsNarrow c cs narrow in
        let width = width-alone all column c k same.0 in
        let white = hangs-not all c k same.0 here in
        let full = overflows-is below column (width_alone c.char) low here.0 in
        elim (cases_lt limit (column + width_alone c.char)) [
          | inl over ↦ rw (width, white, full, lt-ltb limit (column + width_alone c.char) over) (elim (cases_Bool (index == 0)) [
            | inl first ↦ rw first (omega arith)
            | inr later ↦ rw later (omega arith)
          ])
          | inr under ↦
              let goes_on : nat_lt limit (column + width_alone c.char) ≡ false = grind (arith, under) in
              rw (width, white, full, goes_on, add_columns-is below column (width_alone c.char) under)
              (length-from below all (index + 1) (column + width_alone c.char) cs ks same.1 (All-tail IsNarrow c cs narrow) under ∙ omega arith)
        ]

    -- ---- the lines

    module _ (len_of : ℕ → ℕ) where
      -- the characters follow one another from a code unit
      abbrev AreUnitsFrom : ℕ → List LineChar → Type 0
      AreUnitsFrom start [] = Unit {0}
      AreUnitsFrom start (c ∷ cs) = (c.end ≡ start + len_of c.char) × AreUnitsFrom (start + len_of c.char) cs

      abbrev len : ℕ → List LineChar → ℕ
      len n cs = text_len len_of (take n (codes_of cs))

      len-more : (n : ℕ) (c : LineChar) (cs : List LineChar) → len (suc n) (c ∷ cs) ≡ len_of c.char + len n cs
      len-more n c cs = sum_by-cons len_of c.char (take n (codes_of cs))

      AreUnitsFrom-drop : (n start : ℕ) (cs : List LineChar) → AreUnitsFrom start cs → AreUnitsFrom (start + len n cs) (drop n cs)
      AreUnitsFrom-drop zero start cs units = subst (λ (u : ℕ). AreUnitsFrom u cs) (omega arith) units
      AreUnitsFrom-drop (suc n) start [] units = tt
      AreUnitsFrom-drop (suc n) start (c ∷ cs) units =
          subst (λ (u : ℕ). AreUnitsFrom u (drop n cs)) (omega (arith, len-more n c cs)) (AreUnitsFrom-drop n (start + len_of c.char) cs units.1)

      -- where the clusters end
      end-at : (all : List LineChar) (m start d : ℕ) (cs : List LineChar) (ks : List LineCluster) → AreSingles all cs ks → AreUnitsFrom start cs → m < length cs
          → get_or (map (λ (k : LineCluster). k.end) ks) m d ≡ start + len (suc m) cs
      end-at all m start d [] ks same units within = absurd (omega (arith, within))
      end-at all m start d (c ∷ cs) [] same units within = absurd same
      end-at all zero start d (c ∷ cs) (k ∷ ks) same units within = omega (arith, same.0.end, units.0, len-more 0 c cs)
      end-at all (suc m) start d (c ∷ cs) (k ∷ ks) same units within =
          end-at all m (start + len_of c.char) d cs ks same.1 units.1 (omega (arith, within)) ∙ omega (arith, len-more (suc m) c cs)

      lines-up_to : limit < max_columns → (all : List LineChar) (n start : ℕ) (cs : List LineChar) (ks : List LineCluster) → AreSingles all cs ks → All IsNarrow cs → AreUnitsFrom start cs
          → lines_up_to by_characters anywhere limit all n start ks ≡ ranges_from len_of start (layout_lines_up_to width_alone limit n (codes_of cs))
      lines-up_to below all zero start cs ks same narrow units = refl
      lines-up_to below all (suc n) start [] [] same narrow units = refl
      lines-up_to below all (suc n) start [] (k ∷ ks) same narrow units = absurd same
      lines-up_to below all (suc n) start (c ∷ cs) [] same narrow units = absurd same
      lines-up_to below all (suc n) start (c ∷ cs) (k ∷ ks) same narrow units =
          let here : IsNarrow c = All-head IsNarrow c cs narrow in
          let m : ℕ = fitted (0 + width_alone c.char) cs in
          let more : fitted 0 (c ∷ cs) ≡ suc m = fitted-more 0 c cs (omega (arith, here.0)) in
          let count : first_line_length by_characters anywhere limit all (k ∷ ks) ≡ suc m = length-from below all 0 0 (c ∷ cs) (k ∷ ks) same narrow (omega arith) ∙ omega (arith, more) in
          let taken : line_length width_alone limit (codes_of (c ∷ cs)) ≡ suc m = line_length-fitted c cs here ∙ more in
          let before : suc m - 1 ≡ m = omega arith in
          let end = end-at all m start start (c ∷ cs) (k ∷ ks) same units (omega (arith, more, fitted-within 0 (c ∷ cs))) in
          let rest = lines-up_to below all n (start + len (suc m) (c ∷ cs)) (drop (suc m) (c ∷ cs)) (drop (suc m) (k ∷ ks)) (AreSingles-drop all (suc m) (c ∷ cs) (k ∷ ks) same)
          (All-drop IsNarrow (suc m) (c ∷ cs) narrow) (AreUnitsFrom-drop (suc m) start (c ∷ cs) units) in
          rw (count, taken, before, end, rest, drop-map (λ (c : LineChar). c.char) (suc m) (c ∷ cs)) refl

      lines-of_chars : limit < max_columns → (start : ℕ) (cs : List LineChar) → All IsNarrow cs → AreUnitsFrom start cs
          → lines_of by_characters anywhere limit cs start (clusters_of by_characters width_of cs) ≡ ranges_from len_of start (layout_lines width_alone limit (codes_of cs))
      unfolding lines_of clusters_of line_clusters layout_lines
      lines-of_chars below start cs narrow units =
          let ks : List LineCluster = clusters_from by_characters width_of 0 0 (singles cs) in
          let same : AreSingles cs cs ks = singles-clusters cs [] cs 0 0 refl refl in
          let long : length ks ≡ length (codes_of cs) = length-singles cs cs ks same ∙ sym (length-map cs (λ (c : LineChar). c.char)) in
          rw (clusters-singles [] cs, long) (lines-up_to below cs (length (codes_of cs)) start cs ks same narrow units)

      -- ---- the characters of a line

      module _ (start : ℕ) (chars : List ℕ) (classes : List BidiClass) (levels : List ℕ) where
        chars-follow : (j n : ℕ) → j + n ≡ length chars → AreUnitsFrom (start + unit_index len_of chars j) (map (line_char_at len_of start chars classes levels) (range_with_len j n))
        chars-follow j zero all = tt
        chars-follow j (suc n) all =
            let next : unit_index len_of chars (j + 1) ≡ unit_index len_of chars j + len_of (get_or chars j 0) = unit_index-more len_of chars j 0 (omega (arith, all)) in
            (refl, subst (λ (u : ℕ). AreUnitsFrom u (map (line_char_at len_of start chars classes levels) (range_with_len (j + 1) n))) (omega (arith, next)) (chars-follow (j + 1) n (omega (arith, all))))

        line_chars-follow : AreUnitsFrom start (line_chars_by len_of start chars classes levels)
        line_chars-follow = subst (λ (u : ℕ). AreUnitsFrom u (line_chars_by len_of start chars classes levels)) (omega (arith, unit_index-zero len_of chars)) (chars-follow 0 (length chars) (omega arith))

    -- the lines of a paragraph that is shown in this way are those of `layout`
    pub lines-by_characters : limit < max_columns → (a : AnalysedText) (level : ℕ) (range : Range ℕ) (line : DisplayedLine) → options line ≡ by_characters
        → Displays width_of a level range line → All IsNarrow (chars line)
        → lines_of (options line) anywhere limit (chars line) (laid_out line).start (clusters line) ≡ line_ranges a.len_of a.chars width_alone limit range.start range.end
    unfolding line_chars
    lines-by_characters below a level range line plain shows narrow =
        let text : List ℕ = subrange a.len_of a.chars range.start range.end in
        let classes = per_char L a.len_of text (slice_range a.classes range.start range.end) in
        let levels : List ℕ = line_levels_per_char a level range in
        let cs : List LineChar = line_chars_by a.len_of range.start text classes levels in
        let narrow_cs : All IsNarrow cs = subst (All IsNarrow) shows.chars narrow in
        let found = lines-of_chars a.len_of below range.start cs narrow_cs (line_chars-follow a.len_of range.start text classes levels) in
        ap (λ (ks : List LineCluster). lines_of (options line) anywhere limit (chars line) line.start ks) shows.clusters
        ∙ ap (λ (ds : List LineChar). lines_of (options line) anywhere limit ds line.start (clusters_of (options line) width_of cs)) shows.chars
        ∙ ap (λ (o : DisplayOptions). lines_of o anywhere limit cs line.start (clusters_of o width_of cs)) plain
        ∙ ap (λ (from : ℕ). lines_of by_characters anywhere limit cs from (clusters_of by_characters width_of cs)) shows.start
        ∙ found
        ∙ ap (λ (text_chars : List ℕ). ranges_from a.len_of range.start (layout_lines width_alone limit text_chars)) (line_chars-chars a.len_of range.start text classes levels)
