-- The clusters of a line cut no character of the text, and so the lines of a paragraph cut none.
use Rattle.bidi_base.proofs.Common.{◌≡◌, ℕ, zero, suc, ◌+◌, ◌-◌, ◌<◌, ◌≤◌, Bool, true, false, if◌then◌else◌, All, List, [], ◌∷◌, length, map, drop, get_or, subst, sym, ap, ◌∙◌, arith, onto_first}
use Rattle.bidi_base.specs.AnalysedText.{IsLineOf}
use Rattle.bidi_base.proofs.Common.{AnalysedText, IsLine, IsPartition, Range, Run, run_of, subrange, per_char, unit_index, slice_range, is_boundary, char_index, line_levels_per_char}
use Rattle.bidi_base.proofs.Common.{All-cons, All-drop, All-get_or, All-head, All-nil, All-tail, get_or-map, length-map, length-take, length-drop}
use Rattle.bidi_base.specs.declared.char_data.BidiClass.TheVariants.{L}
use Rattle.bidi_base.proofs.TextLemmas.{HasUnits}
use Rattle.bidi_base.proofs.UnitIndexLemmas.{unit_index-more, unit_index-slice_range, is_boundary-unit_index, line_unit_indexes}
use Rattle.bidi_display.specs.DisplayedLine.{AreClustersFrom, add_columns, cluster_end, cluster_width, clusters_from, clusters_of}
use Rattle.bidi_display.specs.LineBreaks.{first_line_length, lines_of, lines_up_to}
use Rattle.bidi_display.specs.LineChars.{line_chars}
use Rattle.bidi_display.specs.LineClusters.{begins_cluster, clusters_after, displayed_before, line_clusters}
use Rattle.bidi_display.specs.Shown.{CutsNoChar}
use Rattle.bidi_display.specs.declared.line_char.LineChar.{LineChar}
use Rattle.bidi_display.specs.declared.line_cluster.LineCluster.{LineCluster}
use Rattle.bidi_display.specs.declared.options.DisplayOptions.{DisplayOptions}
use Rattle.bidi_display.proofs.LineCharsLemmas.{get_or-line_chars_by, length-line_chars_by}
use Rattle.bidi_display.proofs.LineRuns.{AreClustersFrom-rest}
use Rattle.bidi_display.proofs.WholeLine.{clusters_of-whole}

-- ---- what holds where each character ends holds where each cluster ends, and where each line does

module _ (P : ℕ → Type 0) where
  abbrev CharsEnd : List LineChar → Type 0
  CharsEnd chars = All (λ (c : LineChar). P c.end) chars

  abbrev ClustersEnd : List LineCluster → Type 0
  ClustersEnd ks = All (λ (k : LineCluster). P k.end) ks

  module _ (options : DisplayOptions) (width_of : List ℕ → ℕ) where
    abbrev PieceEnds : List LineChar → Type 0
    PieceEnds piece = P (cluster_end options width_of piece)

    piece-cons : (c : LineChar) (piece : List LineChar) → P c.end → PieceEnds piece → PieceEnds (c ∷ piece)
    piece-cons c [] here rest = here
    piece-cons c (d ∷ ds) here rest = rest

    pieces-cons : (begins : Bool) (c : LineChar) (pieces : List (List LineChar)) → P c.end → All PieceEnds pieces → All PieceEnds (if begins then (c ∷ []) ∷ pieces else onto_first c pieces)
    pieces-cons true c pieces here h = All-cons PieceEnds (c ∷ []) pieces here h
    pieces-cons false c [] here h = All-cons PieceEnds (c ∷ []) [] here h
    pieces-cons false c (p ∷ ps) here h = All-cons PieceEnds (c ∷ p) ps (piece-cons c p here (All-head PieceEnds p ps h)) (All-tail PieceEnds p ps h)

    pieces_end : (before cs : List LineChar) → CharsEnd cs → All PieceEnds (clusters_after options before cs)
    pieces_end before [] h = All-nil PieceEnds
    pieces_end before (c ∷ cs) h =
        let read = displayed_before options.dropped before c in
        let ends : LineChar → Type 0 = λ d. P d.end in
        pieces-cons (begins_cluster options read cs) c (clusters_after options read cs) (All-head ends c cs h) (pieces_end read cs (All-tail ends c cs h))

    clusters_from-end : (at column : ℕ) (pieces : List (List LineChar)) → All PieceEnds pieces → ClustersEnd (clusters_from options width_of at column pieces)
    clusters_from-end at column [] h = All-nil (λ (k : LineCluster). P k.end)
    clusters_from-end at column (p ∷ ps) h =
        All-cons (λ (k : LineCluster). P k.end) _ _ (All-head PieceEnds p ps h)
        (clusters_from-end (at + length p) (add_columns column (cluster_width options width_of column p)) ps (All-tail PieceEnds p ps h))

    clusters_end : (chars : List LineChar) → CharsEnd chars → ClustersEnd (clusters_of options width_of chars)
    unfolding clusters_of line_clusters
    clusters_end chars h = clusters_from-end 0 0 (clusters_after options [] chars) (pieces_end [] chars h)

  -- at the end of one of the clusters, or at `d`
  end_of : (ks : List LineCluster) (m d : ℕ) → P d → ClustersEnd ks → P (get_or (map (λ k. k.end) ks) m d)
  end_of [] m d other h = other
  end_of (k ∷ ks) zero d other h = All-head (λ (c : LineCluster). P c.end) k ks h
  end_of (k ∷ ks) (suc m) d other h = end_of ks m d other (All-tail (λ (c : LineCluster). P c.end) k ks h)

  -- at both ends of a range
  abbrev HoldsAtEnds : Run → Type 0
  HoldsAtEnds r = P r.0 × P r.1

  module _ (options : DisplayOptions) (break_after : _) (limit : ℕ) (chars : List LineChar) where
    lines_up_to-end : (n start : ℕ) (ks : List LineCluster) → P start → ClustersEnd ks → All HoldsAtEnds (lines_up_to options break_after limit chars n start ks)
    lines_up_to-end zero start ks at h = All-nil HoldsAtEnds
    lines_up_to-end (suc n) start [] at h = All-nil HoldsAtEnds
    lines_up_to-end (suc n) start (k ∷ ks) at h =
        let count = first_line_length options break_after limit chars (k ∷ ks) in
        let end = get_or (map (λ (c : LineCluster). c.end) (k ∷ ks)) (count - 1) start in
        let at_end : P end = end_of (k ∷ ks) (count - 1) start at h in
        let rest : List LineCluster = drop count (k ∷ ks) in
        All-cons HoldsAtEnds (start, end) (lines_up_to options break_after limit chars n end rest) (at, at_end)
        (lines_up_to-end n end rest at_end (All-drop (λ (c : LineCluster). P c.end) count (k ∷ ks) h))

    lines_of-end : (start : ℕ) (ks : List LineCluster) → P start → ClustersEnd ks → All HoldsAtEnds (lines_of options break_after limit chars start ks)
    unfolding lines_of
    lines_of-end start ks at h = lines_up_to-end (length ks) start ks at h

-- ---- boundaries of the text

module _ (a : AnalysedText) where
  abbrev IsBoundary : ℕ → Type 0
  IsBoundary u = is_boundary a.len_of a.chars u ≡ true

  -- each character of a line ends at a boundary
  chars_end : HasUnits a.len_of → (level : ℕ) (line : Range ℕ) → IsLineOf a line → CharsEnd IsBoundary (line_chars a level line)
  unfolding line_chars
  chars_end some level line is_line = λ k d fits.
      let i = char_index a.len_of a.chars line.start in
      let j = char_index a.len_of a.chars line.end in
      let at = line_unit_indexes a.len_of some a.chars line.start line.end is_line in
      let part : List ℕ = subrange a.len_of a.chars line.start line.end in
      let classes = per_char L a.len_of part (slice_range a.classes line.start line.end) in
      let levels = line_levels_per_char a level line in
      let within : k < length part = omega (arith, fits, length-line_chars_by a.len_of line.start part classes levels) in
      let long : length part ≤ j - i = grind (arith, length-take, length-drop) in
      let inside : i + (k + 1) ≤ j = omega (arith, within, long) in
      let next = unit_index-slice_range a.len_of a.chars i j (k + 1) inside at.within in
      let more = unit_index-more a.len_of part k 0 within in
      let ends : unit_index a.len_of a.chars (i + (k + 1)) ≡ line.start + unit_index a.len_of part k + a.len_of (get_or part k 0) = omega (arith, next, more, at.begins) in
      ap (λ (c : LineChar). is_boundary a.len_of a.chars c.end) (get_or-line_chars_by a.len_of line.start part classes levels k d within)
      ∙ ap (is_boundary a.len_of a.chars) (sym ends) ∙ is_boundary-unit_index a.len_of a.chars (i + (k + 1))

  -- clusters one after the other, each of which ends at a boundary, cut no character
  clusters-cut : (start end : ℕ) (ks : List LineCluster) → IsBoundary start → AreClustersFrom start end ks → ClustersEnd IsBoundary ks → All (CutsNoChar a) ks
  clusters-cut start end [] at h ends = All-nil (CutsNoChar a)
  clusters-cut start end (k ∷ ks) at h ends =
      let begins : k.start ≡ start = h.first (omega arith) in
      let here : IsBoundary k.end = All-head (λ (c : LineCluster). IsBoundary c.end) k ks ends in
      All-cons (CutsNoChar a) k ks (record { ordered = omega (arith, h.not_empty 0 (omega arith)); begins = subst IsBoundary (sym begins) at; ends = here })
      (clusters-cut k.end end ks here (AreClustersFrom-rest start end k ks h) (All-tail (λ (c : LineCluster). IsBoundary c.end) k ks ends))

  -- whatever the options and the widths are
  pub clusters_of-cut : HasUnits a.len_of → (options : DisplayOptions) (width_of : List ℕ → ℕ) (level : ℕ) (line : Range ℕ) → IsLineOf a line
      → All (CutsNoChar a) (clusters_of options width_of (line_chars a level line))
  clusters_of-cut some options width_of level line is_line =
      let ks = clusters_of options width_of (line_chars a level line) in
      clusters-cut line.start line.end ks is_line.begins (clusters_of-whole options width_of a some level line is_line)
      (clusters_end IsBoundary options width_of (line_chars a level line) (chars_end some level line is_line))

  -- ranges one after the other
  runs-cut : (start end : ℕ) (runs : List Run) → IsPartition start end runs → All (HoldsAtEnds IsBoundary) runs → All (λ r. IsLine a.len_of a.chars r.0 r.1) runs
  runs-cut start end [] h ends = All-nil (λ (r : Run). IsLine a.len_of a.chars r.0 r.1)
  runs-cut start end (r ∷ rs) h ends =
      let here = All-head (HoldsAtEnds IsBoundary) r rs ends in
      All-cons (λ (r : Run). IsLine a.len_of a.chars r.0 r.1) r rs (record { ordered = omega (arith, h.1); begins = here.0; ends = here.1 })
      (runs-cut r.1 end rs h.2 (All-tail (HoldsAtEnds IsBoundary) r rs ends))

  -- the lines that were appended to a list
  pub lines-cut : (options : DisplayOptions) (break_after : List LineChar → _) (limit : ℕ) (chars : List LineChar) (start end : ℕ) (ks : List LineCluster) (appended : List (Range ℕ))
      → map run_of appended ≡ lines_of options break_after limit chars start ks → IsPartition start end (map run_of appended) → IsBoundary start → All (CutsNoChar a) ks → All (IsLineOf a) appended
  lines-cut options break_after limit chars start end ks appended are whole at cut = λ i d fits.
      let ends : ClustersEnd IsBoundary ks = λ j k within. (cut j k within).ends in
      let of_runs : All (HoldsAtEnds IsBoundary) (map run_of appended) = subst (All (HoldsAtEnds IsBoundary)) (sym are) (lines_of-end IsBoundary options break_after limit chars start ks at ends) in
      let lines = runs-cut start end (map run_of appended) whole of_runs in
      subst (λ (r : Run). IsLine a.len_of a.chars r.0 r.1) (get_or-map run_of appended i d (run_of d) fits)
      (All-get_or (λ (r : Run). IsLine a.len_of a.chars r.0 r.1) (map run_of appended) i (run_of d) (omega (arith, length-map appended run_of, fits)) lines)
