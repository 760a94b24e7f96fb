-- A line whose levels are all even: its clusters and its text are displayed in the order of the text.
use Rattle.bidi_base.proofs.Common.{◌≡◌, ℕ, ◌+◌, ◌-◌, ◌<◌, Bool, false, not, List, [], ◌∷◌, ◌++◌, Option, Some, None, length, length-append, map, map-append, map-map, filter, filter-append, flat_map, find, take, drop, get_or, get_or-map-range_with_len, get_or_default, range_with_len, length-map, length-map-range_with_len, same_lists, take-append_seam, drop-append_seam, append_assoc, list_any, or_parts, list_any-append, onto_first, slice_range, at_indexes, indexes, is_odd, has_rtl, IfSome, inl, inr, cases_Bool, refl, sym, ap, ◌∙◌, arith}
use Rattle.bidi_base.specs.Classes.{is_kept}
use Rattle.bidi_base.specs.declared.char_data.BidiClass.{BidiClass}
use Rattle.bidi_lines.proofs.Ordered.{none_odd, visual_order-still}
use Rattle.bidi_lines.proofs.Pieces.{at_indexes-map}
use Rattle.bidi_display.specs.DisplayedLine.{add_columns, cluster_order, cluster_width, clusters_from, clusters_of, levels_of}
use Rattle.bidi_display.specs.LineChars.{line_char_at, line_chars_by}
use Rattle.bidi_display.specs.LineClusters.{begins_cluster, cluster_level, clusters_after, displayed_before, displayed_chars, is_dropped, line_clusters, or_first_level}
use Rattle.bidi_display.specs.Shown.{cluster_text, displayed_char, displayed_part}
use Rattle.bidi_display.specs.declared.line_char.LineChar.{LineChar}
use Rattle.bidi_display.specs.declared.line_cluster.LineCluster.{LineCluster}
use Rattle.bidi_display.specs.declared.options.DisplayOptions.{DisplayOptions}

-- the elements at all indexes are the list
pub elements-all : {X : Type 0} (d : X) (xs : List X) → map (λ p. get_or xs p d) (indexes xs) ≡ xs
elements-all {X} d xs = same_lists _ xs (length-map-range_with_len (λ p. get_or xs p d) 0 (length xs)) at_each
  where
    at_each : (k : ℕ) (e : X) → k < length (map (λ p. get_or xs p d) (indexes xs)) → get_or (map (λ p. get_or xs p d) (indexes xs)) k e ≡ get_or xs k e
    at_each k e below =
        let fits : k < length xs = omega (arith, length-map-range_with_len (λ p. get_or xs p d) 0 (length xs)) in
        get_or-map-range_with_len (λ p. get_or xs p d) 0 (length xs) k k e fits (omega arith) ∙ get_or_default xs k d e fits

pub at_indexes-all : {X : Type 0} (d : X) (xs : List X) → at_indexes d xs (indexes xs) ≡ xs
at_indexes-all d xs = at_indexes-map d xs (indexes xs) ∙ elements-all d xs

-- where no level of a cluster is odd, the clusters are displayed in the order of the text
pub cluster_order-still : (clusters : List LineCluster) → has_rtl (levels_of clusters) ≡ false → cluster_order clusters ≡ indexes clusters
cluster_order-still clusters even =
    let long : length (levels_of clusters) ≡ length clusters = length-map clusters (λ (k : LineCluster). k.level) in
    visual_order-still (levels_of clusters) (none_odd (levels_of clusters) even) ∙ ap (range_with_len 0) long

-- the characters of these clusters
abbrev joined : List (List LineChar) → List LineChar
joined pieces = flat_map (λ (p : List LineChar). p) pieces

abbrev has_odd_level : LineChar → Bool
has_odd_level c = is_odd c.level

find-even : (test : LineChar → Bool) (cs : List LineChar) → list_any has_odd_level cs ≡ false → IfSome (find test cs) (λ c. is_odd c.level ≡ false)
find-even test [] even = tt
find-even test (c ∷ cs) even =
    let parts = or_parts (is_odd c.level) (list_any has_odd_level cs) even in
    elim (cases_Bool (test c)) [
      | inl found ↦ rw found parts.0
      | inr other ↦ rw other (find-even test cs parts.1)
    ]

filter-even : (test : LineChar → Bool) (cs : List LineChar) → list_any has_odd_level cs ≡ false → list_any has_odd_level (filter test cs) ≡ false
filter-even test [] even = refl
filter-even test (c ∷ cs) even =
    let parts = or_parts (is_odd c.level) (list_any has_odd_level cs) even in
    elim (cases_Bool (test c)) [
      | inl kept ↦ rw (kept, parts.0) (filter-even test cs parts.1)
      | inr left_out ↦ rw left_out (filter-even test cs parts.1)
    ]

-- the characters of a cluster begin where those before it end
pub slice-middle : (done piece rest : List LineChar) → slice_range (done ++ (piece ++ rest)) (length done) (length done + length piece) ≡ piece
slice-middle done piece rest =
    let long : length done + length piece - length done ≡ length piece = omega arith in
    ap (λ n. take n (drop (length done) (done ++ (piece ++ rest)))) long ∙ ap (take (length piece)) (drop-append_seam done (piece ++ rest)) ∙ take-append_seam piece rest

joined-onto_first : (c : LineChar) (pieces : List (List LineChar)) → joined (onto_first c pieces) ≡ c ∷ joined pieces
joined-onto_first c [] = refl
joined-onto_first c (p ∷ ps) = refl

module _ (options : DisplayOptions) where
  joined-clusters : (before cs : List LineChar) → joined (clusters_after options before cs) ≡ cs
  joined-clusters before [] = refl
  joined-clusters before (c ∷ cs) =
      let read = displayed_before options.dropped before c in
      let rest = joined-clusters read cs in
      elim (cases_Bool (begins_cluster options read cs)) [
        | inl begins ↦ rw begins (ap (λ xs. c ∷ xs) rest)
        | inr joins ↦ rw joins (joined-onto_first c (clusters_after options read cs) ∙ ap (λ xs. c ∷ xs) rest)
      ]

  -- ---- levels of clusters

  or_first_level-even : (o : Option LineChar) (cs : List LineChar) → IfSome o (λ c. is_odd c.level ≡ false) → list_any has_odd_level cs ≡ false → is_odd (or_first_level options o cs) ≡ false
  or_first_level-even (Some c) cs found even = found
  or_first_level-even None [] found even = refl
  or_first_level-even None (c ∷ cs) found even = (or_parts (is_odd c.level) (list_any has_odd_level cs) even).0

  cluster_level-even : (cs : List LineChar) → list_any has_odd_level cs ≡ false → is_odd (cluster_level options cs) ≡ false
  cluster_level-even cs even =
      or_first_level-even _ cs (find-even (λ c. is_kept c.class) (displayed_chars options cs) (filter-even (λ c. not (is_dropped options.dropped c)) cs even)) even

  module _ (width_of : List ℕ → ℕ) where
    levels-even : (at column : ℕ) (pieces : List (List LineChar)) → list_any has_odd_level (joined pieces) ≡ false → has_rtl (levels_of (clusters_from options width_of at column pieces)) ≡ false
    levels-even at column [] even = refl
    levels-even at column (p ∷ ps) even =
        let parts = or_parts (list_any has_odd_level p) (list_any has_odd_level (joined ps)) (sym (list_any-append has_odd_level p (joined ps)) ∙ even) in
        rw (cluster_level-even p parts.0) (levels-even (at + length p) (add_columns column (cluster_width options width_of column p)) ps parts.1)

    pub clusters-even : (chars : List LineChar) → list_any (λ (c : LineChar). is_odd c.level) chars ≡ false → has_rtl (levels_of (clusters_of options width_of chars)) ≡ false
    unfolding clusters_of line_clusters
    clusters-even chars even = levels-even 0 0 (clusters_after options [] chars) (ap (list_any has_odd_level) (joined-clusters [] chars) ∙ even)

  -- ---- text

  module _ (mirrored_of : ℕ → ℕ) where
    displayed_part-append : (cs ds : List LineChar) → displayed_part options mirrored_of (cs ++ ds) ≡ displayed_part options mirrored_of cs ++ displayed_part options mirrored_of ds
    displayed_part-append cs ds =
        ap (map (displayed_char mirrored_of)) (filter-append (λ (c : LineChar). not (is_dropped options.dropped c)) cs ds)
        ∙ map-append (displayed_char mirrored_of) (displayed_chars options cs) (displayed_chars options ds)

    -- characters that are displayed, at even levels
    pub displayed_part-plain : (cs : List LineChar) → list_any (λ (c : LineChar). is_odd c.level) cs ≡ false → list_any (is_dropped options.dropped) cs ≡ false
        → displayed_part options mirrored_of cs ≡ map (λ (c : LineChar). c.char) cs
    displayed_part-plain [] even shown = refl
    displayed_part-plain (c ∷ cs) even shown =
        let evens = or_parts (is_odd c.level) (list_any has_odd_level cs) even in
        let showns = or_parts (is_dropped options.dropped c) (list_any (is_dropped options.dropped) cs) shown in
        rw (showns.0, evens.0) (ap (λ text. c.char ∷ text) (displayed_part-plain cs evens.1 showns.1))

    module _ (width_of : List ℕ → ℕ) where
      texts-from : (all done : List LineChar) (pieces : List (List LineChar)) (at column : ℕ) → at ≡ length done → all ≡ done ++ joined pieces
          → flat_map (λ (text : List ℕ). text) (map (cluster_text options mirrored_of all) (clusters_from options width_of at column pieces)) ≡ displayed_part options mirrored_of (joined pieces)
      texts-from all done [] at column here whole = refl
      texts-from all done (p ∷ ps) at column here whole =
          let piece : slice_range all at (at + length p) ≡ p = rw (whole, here) (slice-middle done p (joined ps)) in
          let rest = texts-from all (done ++ p) ps (at + length p) (add_columns column (cluster_width options width_of column p)) (omega (arith, here, length-append done p))
          (whole ∙ sym (append_assoc done p (joined ps))) in
          rw (piece, rest) (sym (displayed_part-append p (joined ps)))

      -- the texts of the clusters, one after the other
      pub texts-joined : (chars : List LineChar) → flat_map (λ (text : List ℕ). text) (map (cluster_text options mirrored_of chars) (clusters_of options width_of chars)) ≡ displayed_part options mirrored_of chars
      unfolding clusters_of line_clusters
      texts-joined chars =
          texts-from chars [] (clusters_after options [] chars) 0 0 refl (sym (joined-clusters [] chars)) ∙ ap (displayed_part options mirrored_of) (joined-clusters [] chars)

-- the characters that were read for a line are those of the line
pub line_chars-chars : (len_of : ℕ → ℕ) (start : ℕ) (chars : List ℕ) (classes : List BidiClass) (levels : List ℕ) → map (λ (c : LineChar). c.char) (line_chars_by len_of start chars classes levels) ≡ chars
line_chars-chars len_of start chars classes levels = map-map (λ (c : LineChar). c.char) (line_char_at len_of start chars classes levels) (indexes chars) ∙ elements-all 0 chars
