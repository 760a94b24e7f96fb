-- Laws of the clusters of a displayed line whose grapheme clusters move: they are those of its text.
use Rattle.bidi_base.proofs.Common.{◌≡◌, ℕ, zero, suc, ◌+◌, ◌<◌, ◌≤◌, Bool, true, false, not, if◌then◌else◌, List, [], ◌∷◌, ◌++◌, length, map, get_or, onto_first, list_any, or_parts, refl, sym, ap, ◌∙◌, arith, Range, AnalysedText, IsLine, subrange, per_char, text_len, slice_range, line_levels_per_char, range_with_len, unit_index, sum_by, sum_by-append, sum_by-cons, take, drop, char_index, ⊤}
use Rattle.bidi_base.proofs.TextLemmas.{HasUnits}
use Rattle.bidi_base.proofs.UnitIndexLemmas.{IsLineAt, line_unit_indexes, unit_index-more, unit_index-sum, unit_index-zero}
use Rattle.bidi_base.specs.Paragraphs.{ranges_from}
use Rattle.bidi_base.specs.declared.char_data.BidiClass.{BidiClass}
use Rattle.bidi_base.specs.declared.char_data.BidiClass.TheVariants.{L}
use Rattle.unicode_segmentation.specs.Grapheme.{is_grapheme_break}
use Rattle.unicode_segmentation.specs.Segments.{Rule, cut}
use Rattle.bidi_display.specs.Clusters.{clusters, is_cluster_boundary}
use Rattle.bidi_display.specs.DisplayedLine.{add_columns, cluster_end, cluster_start, cluster_width, clusters_from, clusters_of}
use Rattle.bidi_display.specs.LineChars.{line_char_at, line_chars, line_chars_by}
use Rattle.bidi_display.specs.LineClusters.{begins_cluster, clusters_after, displayed_before, is_dropped, line_clusters}
use Rattle.bidi_display.specs.Shown.{Displays, clusters as clusters_in, options as options_of}
use Rattle.bidi_display.specs.declared.displayed_line.DisplayedLine.{DisplayedLine}
use Rattle.bidi_display.specs.declared.line_char.LineChar.{LineChar}
use Rattle.bidi_display.specs.declared.line_cluster.LineCluster.{LineCluster}
use Rattle.bidi_display.specs.declared.options.DisplayOptions.{DisplayOptions}
use Rattle.bidi_display.specs.declared.options.Moves.TheVariants.{Clusters}
use Rattle.bidi_display.proofs.CaretLaws.{DropsNone}
use Rattle.bidi_display.proofs.ClusterCuts.{attach, breaks-first, clusters-parts, cut-next, cut-nil}
use Rattle.bidi_display.proofs.EvenLineLemmas.{line_chars-chars}
use Rattle.bidi_display.proofs.StateLemmas.{is_grapheme_break-end}

-- the characters of a line, as those of the text
abbrev chars_in : List LineChar → List ℕ
chars_in cs = map (λ (c : LineChar). c.char) cs

-- the code units of a cluster
abbrev pub range_of : LineCluster → ℕ × ℕ
range_of k = (k.start, k.end)

-- ---- the clusters as lists of characters

not-not : (b : Bool) → not (not b) ≡ b
not-not true = refl
not-not false = refl

onto_first-chars : (begins : Bool) (c : LineChar) (ks : List (List LineChar))
    → map chars_in (if begins then (c ∷ []) ∷ ks else onto_first c ks) ≡ attach begins (c.char ∷ []) (map chars_in ks)
onto_first-chars true c ks = refl
onto_first-chars false c [] = refl
onto_first-chars false c (k ∷ ks) = refl

module _ (options : DisplayOptions) (moves : options.moves ≡ Clusters) where
  begins-is : (read cs : List LineChar) → list_any (is_dropped options.dropped) cs ≡ false
      → begins_cluster options read cs ≡ is_grapheme_break true (chars_in read) (chars_in cs ++ [])
  begins-is read [] none = sym (is_grapheme_break-end (chars_in read))
  begins-is read (c ∷ cs) none =
      let shown : is_dropped options.dropped c ≡ false = (or_parts _ _ none).0 in
      rw (shown, moves) (not-not (is_grapheme_break true (chars_in read) (c.char ∷ [])) ∙ breaks-first (chars_in read) c.char [] (chars_in cs ++ []))

  clusters-chars : (before cs : List LineChar) → list_any (is_dropped options.dropped) cs ≡ false
      → map chars_in (clusters_after options before cs) ≡ cut (is_grapheme_break true) (chars_in before) (chars_in cs) []
  clusters-chars before [] none = sym (cut-nil (is_grapheme_break true) (chars_in before) [])
  clusters-chars before (c ∷ cs) none =
      let parts = or_parts _ _ none in
      let shown : is_dropped options.dropped c ≡ false = parts.0 in
      let rest = clusters-chars (c ∷ before) cs parts.1 in
      let begins = begins-is (c ∷ before) cs parts.1 in
      rw shown (onto_first-chars (begins_cluster options (c ∷ before) cs) c (clusters_after options (c ∷ before) cs)
      ∙ ap (λ (b : Bool). attach b (c.char ∷ []) (map chars_in (clusters_after options (c ∷ before) cs))) begins
      ∙ ap (attach (is_grapheme_break true (chars_in (c ∷ before)) (chars_in cs ++ [])) (c.char ∷ [])) rest
      ∙ sym (cut-next (is_grapheme_break true) (chars_in before) c.char (chars_in cs) []))

-- ---- the clusters as ranges of code units

-- characters that follow one another from a code unit on, and are as long as the encoding says
abbrev AreFrom : (ℕ → ℕ) → ℕ → List LineChar → Type 0
AreFrom len_of at [] = ⊤
AreFrom len_of at (c ∷ cs) = (c.start ≡ at) × (c.end ≡ at + len_of c.char) × AreFrom len_of c.end cs

AreFrom-places : (len_of : ℕ → ℕ) (char : ℕ → LineChar) (place : ℕ → ℕ) (a n at : ℕ)
    → ((k : ℕ) → a ≤ k → k < a + n → ((char k).start ≡ place k) × ((char k).end ≡ place k + len_of (char k).char) × ((char k).end ≡ place (k + 1))) → at ≡ place a
    → AreFrom len_of at (map char (range_with_len a n))
AreFrom-places len_of char place a zero at are first = tt
AreFrom-places len_of char place a (suc n) at are first =
    let here = are a (omega arith) (omega arith) in
    (here.0 ∙ sym first, omega (arith, here.1, first), AreFrom-places len_of char place (a + 1) n (char a).end (λ k from below. are k (omega arith) (omega arith)) here.2)

AreFrom-line_chars : (len_of : ℕ → ℕ) (start : ℕ) (chars : List ℕ) (classes : List BidiClass) (levels : List ℕ) → AreFrom len_of start (line_chars_by len_of start chars classes levels)
AreFrom-line_chars len_of start chars classes levels =
    AreFrom-places len_of (line_char_at len_of start chars classes levels) (λ k. start + unit_index len_of chars k) 0 (length chars) start
    (λ k from below.
    let within : k < length chars = omega arith in
    (refl, refl, omega (arith, unit_index-more len_of chars k 0 within)))
    (omega (arith, unit_index-zero len_of chars))

module _ (len_of : ℕ → ℕ) (some : HasUnits len_of) (options : DisplayOptions) (width_of : List ℕ → ℕ) where
  -- the code units of characters that follow one another
  abbrev units_of : List LineChar → ℕ × ℕ
  units_of cs = (cluster_start options width_of cs, cluster_end options width_of cs)

  ranges-single : (at : ℕ) (c : LineChar) (ks : List (List LineChar)) → c.start ≡ at → c.end ≡ at + len_of c.char → map units_of ks ≡ ranges_from len_of c.end (map chars_in ks)
      → map units_of ((c ∷ []) ∷ ks) ≡ ranges_from len_of at ((c.char ∷ []) ∷ map chars_in ks)
  ranges-single at c ks begins ends rest =
      let end : c.end ≡ at + text_len len_of (c.char ∷ []) = omega arith in
      ap (λ (u : ℕ). (u, c.end) ∷ map units_of ks) begins ∙ ap (λ (rs : List (ℕ × ℕ)). (at, c.end) ∷ rs) rest ∙ ap (λ (u : ℕ). (at, u) ∷ ranges_from len_of u (map chars_in ks)) end

  ranges-longer : (at : ℕ) (c : LineChar) (k : List LineChar) (ks : List (List LineChar)) → c.start ≡ at → c.end ≡ at + len_of c.char
      → map units_of (k ∷ ks) ≡ ranges_from len_of c.end (chars_in k ∷ map chars_in ks)
      → map units_of ((c ∷ k) ∷ ks) ≡ ranges_from len_of at ((c.char ∷ chars_in k) ∷ map chars_in ks)
  ranges-longer at c [] ks begins ends rest = absurd (omega (arith, some c.char, ends, ap (λ (rs : List (ℕ × ℕ)). (get_or rs 0 (0, 0)).0) rest))
  ranges-longer at c (d ∷ ds) ks begins ends rest =
      let last : cluster_end options width_of (d ∷ ds) ≡ c.end + text_len len_of (chars_in (d ∷ ds)) = ap (λ (rs : List (ℕ × ℕ)). (get_or rs 0 (0, 0)).1) rest in
      let others : map units_of ks ≡ ranges_from len_of (c.end + text_len len_of (chars_in (d ∷ ds))) (map chars_in ks) = ap (drop 1) rest in
      let end : c.end + text_len len_of (chars_in (d ∷ ds)) ≡ at + text_len len_of (c.char ∷ chars_in (d ∷ ds)) = omega (arith, sum_by-cons len_of c.char (chars_in (d ∷ ds))) in
      ap (λ (u : ℕ). (u, cluster_end options width_of (d ∷ ds)) ∷ map units_of ks) begins
      ∙ ap (λ (u : ℕ). (at, u) ∷ map units_of ks) last
      ∙ ap (λ (rs : List (ℕ × ℕ)). (at, c.end + text_len len_of (chars_in (d ∷ ds))) ∷ rs) others
      ∙ ap (λ (u : ℕ). (at, u) ∷ ranges_from len_of u (map chars_in ks)) end

  ranges-next : (at : ℕ) (begins_next : Bool) (c : LineChar) (ks : List (List LineChar)) → c.start ≡ at → c.end ≡ at + len_of c.char → map units_of ks ≡ ranges_from len_of c.end (map chars_in ks)
      → map units_of (if begins_next then (c ∷ []) ∷ ks else onto_first c ks) ≡ ranges_from len_of at (attach begins_next (c.char ∷ []) (map chars_in ks))
  ranges-next at true c ks begins ends rest = ranges-single at c ks begins ends rest
  ranges-next at false c [] begins ends rest = ranges-single at c [] begins ends rest
  ranges-next at false c (k ∷ ks) begins ends rest = ranges-longer at c k ks begins ends rest

  pieces-ranges : (at : ℕ) (before cs : List LineChar) → AreFrom len_of at cs → map units_of (clusters_after options before cs) ≡ ranges_from len_of at (map chars_in (clusters_after options before cs))
  pieces-ranges at before [] from = refl
  pieces-ranges at before (c ∷ cs) from =
      let read = displayed_before options.dropped before c in
      let ks = clusters_after options read cs in
      ranges-next at (begins_cluster options read cs) c ks from.0 from.1 (pieces-ranges c.end read cs from.2)
      ∙ ap (ranges_from len_of at) (sym (onto_first-chars (begins_cluster options read cs) c ks))

  clusters_from-ranges : (index column : ℕ) (ks : List (List LineChar)) → map range_of (clusters_from options width_of index column ks) ≡ map units_of ks
  clusters_from-ranges index column [] = refl
  clusters_from-ranges index column (k ∷ ks) = ap (λ (rs : List (ℕ × ℕ)). units_of k ∷ rs) (clusters_from-ranges (index + length k) (add_columns column (cluster_width options width_of column k)) ks)

  -- the clusters of characters that follow one another are those of their text
  clusters_of-ranges : (at : ℕ) (cs : List LineChar) → AreFrom len_of at cs → options.moves ≡ Clusters → list_any (is_dropped options.dropped) cs ≡ false
      → map range_of (clusters_of options width_of cs) ≡ ranges_from len_of at (clusters (chars_in cs))
  unfolding clusters_of line_clusters clusters
  clusters_of-ranges at cs from moves none =
      clusters_from-ranges 0 0 (clusters_after options [] cs) ∙ pieces-ranges at [] cs from ∙ ap (ranges_from len_of at) (clusters-chars options moves [] cs none)

-- ---- parts of a text

attach-len : (len_of : ℕ → ℕ) (begins : Bool) (c : ℕ) (ps : List (List ℕ)) → sum_by (text_len len_of) (attach begins (c ∷ []) ps) ≡ len_of c + sum_by (text_len len_of) ps
attach-len len_of true c ps = omega (arith, sum_by-cons (text_len len_of) (c ∷ []) ps)
attach-len len_of false c [] = omega arith
attach-len len_of false c (p ∷ ps) = omega (arith, sum_by-cons (text_len len_of) (c ∷ p) ps, sum_by-cons (text_len len_of) p ps, sum_by-cons len_of c p)

cut-len : (len_of : ℕ → ℕ) (rule : Rule) (before cs after : List ℕ) → sum_by (text_len len_of) (cut rule before cs after) ≡ text_len len_of cs
cut-len len_of rule before [] after = ap (sum_by (text_len len_of)) (cut-nil rule before after)
cut-len len_of rule before (c ∷ cs) after =
    ap (sum_by (text_len len_of)) (cut-next rule before c cs after) ∙ attach-len len_of _ c (cut rule (c ∷ before) cs after) ∙ ap (λ (n : ℕ). len_of c + n) (cut-len len_of rule (c ∷ before) cs after) ∙ sym (sum_by-cons len_of c cs)

clusters-len : (len_of : ℕ → ℕ) (cs : List ℕ) → sum_by (text_len len_of) (clusters cs) ≡ text_len len_of cs
unfolding clusters
clusters-len len_of cs = cut-len len_of (is_grapheme_break true) [] cs []

ranges_from-append : (len_of : ℕ → ℕ) (at : ℕ) (ps qs : List (List ℕ)) → ranges_from len_of at (ps ++ qs) ≡ ranges_from len_of at ps ++ ranges_from len_of (at + sum_by (text_len len_of) ps) qs
ranges_from-append len_of at [] qs = ap (λ (u : ℕ). ranges_from len_of u qs) (let e : at ≡ at + 0 = omega arith in e)
ranges_from-append len_of at (p ∷ ps) qs =
    ap (λ (rs : List (ℕ × ℕ)). (at, at + text_len len_of p) ∷ rs) (ranges_from-append len_of (at + text_len len_of p) ps qs
    ∙ ap (λ (u : ℕ). ranges_from len_of (at + text_len len_of p) ps ++ ranges_from len_of u qs) (let e : at + text_len len_of p + sum_by (text_len len_of) ps ≡ at + sum_by (text_len len_of) (p ∷ ps) = omega (arith, sum_by-cons (text_len len_of) p ps) in e))

-- the clusters of a text that is cut at the starts of two clusters, as ranges
pub cluster_ranges-parts : (len_of : ℕ → ℕ) (chars : List ℕ) (i j : ℕ) → i ≤ j → j ≤ length chars → is_cluster_boundary chars i ≡ true → is_cluster_boundary chars j ≡ true
    → ranges_from len_of 0 (clusters chars)
    ≡ (ranges_from len_of 0 (clusters (take i chars)) ++ ranges_from len_of (unit_index len_of chars i) (clusters (slice_range chars i j)))
    ++ ranges_from len_of (unit_index len_of chars j) (clusters (drop j chars))
cluster_ranges-parts len_of chars i j order within begins ends =
    let front = clusters (take i chars) in
    let part = clusters (slice_range chars i j) in
    let back = clusters (drop j chars) in
    let i_is : 0 + sum_by (text_len len_of) front ≡ unit_index len_of chars i = omega (arith, clusters-len len_of (take i chars)) in
    let j_is : 0 + sum_by (text_len len_of) (front ++ part) ≡ unit_index len_of chars j =
    omega (
      arith,
      sum_by-append (text_len len_of) front part,
      clusters-len len_of (take i chars),
      clusters-len len_of (slice_range chars i j),
      unit_index-sum len_of chars i j order (omega arith),
    ) in
    ap (ranges_from len_of 0) (clusters-parts chars i j order begins ends)
    ∙ ranges_from-append len_of 0 (front ++ part) back
    ∙ ap (λ (rs : List (ℕ × ℕ)). rs ++ ranges_from len_of (0 + sum_by (text_len len_of) (front ++ part)) back) (ranges_from-append len_of 0 front part)
    ∙ ap (λ (u : ℕ). (ranges_from len_of 0 front ++ ranges_from len_of u part) ++ ranges_from len_of (0 + sum_by (text_len len_of) (front ++ part)) back) i_is
    ∙ ap (λ (u : ℕ). (ranges_from len_of 0 front ++ ranges_from len_of (unit_index len_of chars i) part) ++ ranges_from len_of u back) j_is

-- ---- the clusters of a line

module _ (options : DisplayOptions) (width_of : List ℕ → ℕ) (a : AnalysedText) (some : HasUnits a.len_of) (level : ℕ) (line : Range ℕ) (moves : options.moves ≡ Clusters)
    (none : list_any (is_dropped options.dropped) (line_chars a level line) ≡ false) where
  -- they are those of the text of the line
  line_clusters-of_line : map range_of (clusters_of options width_of (line_chars a level line)) ≡ ranges_from a.len_of line.start (clusters (subrange a.len_of a.chars line.start line.end))
  unfolding line_chars
  line_clusters-of_line =
      let chars = subrange a.len_of a.chars line.start line.end in
      let classes = per_char L a.len_of chars (slice_range a.classes line.start line.end) in
      let levels = line_levels_per_char a level line in
      clusters_of-ranges a.len_of some options width_of line.start (line_chars_by a.len_of line.start chars classes levels) (AreFrom-line_chars a.len_of line.start chars classes levels) moves none
      ∙ ap (λ (cs : List ℕ). ranges_from a.len_of line.start (clusters cs)) (line_chars-chars a.len_of line.start chars classes levels)

  -- and those of the whole text, if clusters of the text begin at both ends of the line
  line_clusters-of_text : IsLine a.len_of a.chars line.start line.end
      → is_cluster_boundary a.chars (char_index a.len_of a.chars line.start) ≡ true → is_cluster_boundary a.chars (char_index a.len_of a.chars line.end) ≡ true
      → ranges_from a.len_of 0 (clusters a.chars)
      ≡ (ranges_from a.len_of 0 (clusters (take (char_index a.len_of a.chars line.start) a.chars)) ++ map range_of (clusters_of options width_of (line_chars a level line)))
      ++ ranges_from a.len_of line.end (clusters (drop (char_index a.len_of a.chars line.end) a.chars))
  line_clusters-of_text is_line begins ends =
      let i = char_index a.len_of a.chars line.start in
      let j = char_index a.len_of a.chars line.end in
      let at : IsLineAt a.len_of a.chars line.start line.end i j = line_unit_indexes a.len_of some a.chars line.start line.end is_line in
      let front = ranges_from a.len_of 0 (clusters (take i a.chars)) in
      cluster_ranges-parts a.len_of a.chars i j at.ordered at.within begins ends
      ∙ ap (λ (u : ℕ). (front ++ ranges_from a.len_of u (clusters (slice_range a.chars i j))) ++ ranges_from a.len_of (unit_index a.len_of a.chars j) (clusters (drop j a.chars))) (sym at.begins)
      ∙ ap (λ (u : ℕ). (front ++ ranges_from a.len_of line.start (clusters (slice_range a.chars i j))) ++ ranges_from a.len_of u (clusters (drop j a.chars))) (sym at.ends)
      ∙ ap (λ (rs : List (ℕ × ℕ)). (front ++ rs) ++ ranges_from a.len_of line.end (clusters (drop j a.chars))) (sym line_clusters-of_line)

module _ (width_of : List ℕ → ℕ) (a : AnalysedText) (some : HasUnits a.len_of) (level : ℕ) (range : Range ℕ) (s : DisplayedLine) (shown : Displays width_of a level range s)
    (moves : (options_of s).moves ≡ Clusters) (none : DropsNone s) where
  none_dropped : list_any (is_dropped (options_of s).dropped) (line_chars a level range) ≡ false
  none_dropped = ap (list_any (is_dropped (options_of s).dropped)) (sym shown.chars) ∙ none

  -- the clusters of a line in which grapheme clusters move and none of whose characters is dropped are those of its text
  pub clusters-of_line : map range_of (clusters_in s) ≡ ranges_from a.len_of range.start (clusters (subrange a.len_of a.chars range.start range.end))
  clusters-of_line = ap (map range_of) shown.clusters ∙ line_clusters-of_line (options_of s) width_of a some level range moves none_dropped

  -- and those of the whole text, if clusters of the text begin at both ends of the line
  pub clusters-of_text : is_cluster_boundary a.chars (char_index a.len_of a.chars range.start) ≡ true → is_cluster_boundary a.chars (char_index a.len_of a.chars range.end) ≡ true
      → ranges_from a.len_of 0 (clusters a.chars)
      ≡ (ranges_from a.len_of 0 (clusters (take (char_index a.len_of a.chars range.start) a.chars)) ++ map range_of (clusters_in s))
      ++ ranges_from a.len_of range.end (clusters (drop (char_index a.len_of a.chars range.end) a.chars))
  clusters-of_text begins ends =
      let front = ranges_from a.len_of 0 (clusters (take (char_index a.len_of a.chars range.start) a.chars)) in
      let back = ranges_from a.len_of range.end (clusters (drop (char_index a.len_of a.chars range.end) a.chars)) in
      line_clusters-of_text (options_of s) width_of a some level range moves none_dropped shown.is_line begins ends
      ∙ ap (λ (ks : List LineCluster). (front ++ map range_of ks) ++ back) (sym shown.clusters)
