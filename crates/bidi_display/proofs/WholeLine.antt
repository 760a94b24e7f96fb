-- The clusters of a line cover all of its code units in order, and none is empty.
use Rattle.bidi_base.proofs.Common.{◌≡◌, ℕ, zero, suc, ◌+◌, ◌<◌, ◌≤◌, Bool, true, false, if◌then◌else◌, List, [], ◌∷◌, length, map, get_or, refl, sym, ap, subst, ◌∙◌, arith, Range, range_with_len, onto_first}
use Rattle.bidi_base.proofs.Common.{AnalysedText, IsLine, subrange, per_char, unit_index, text_len, slice_range, line_levels_per_char}
use Rattle.bidi_base.specs.declared.char_data.BidiClass.{BidiClass}
use Rattle.bidi_base.specs.declared.char_data.BidiClass.TheVariants.{L}
use Rattle.bidi_base.proofs.TextLemmas.{HasUnits}
use Rattle.bidi_base.proofs.UnitIndexLemmas.{unit_index-zero, unit_index-more, unit_index-end, text_len-subrange}
use Rattle.bidi_display.specs.DisplayedLine.{cluster_start, cluster_end, cluster_width, add_columns, clusters_from, clusters_of, AreClustersFrom}
use Rattle.bidi_display.specs.LineChars.{line_char_at, line_chars_by, line_chars}
use Rattle.bidi_display.specs.LineClusters.{begins_cluster, clusters_after, displayed_before, line_clusters}
use Rattle.bidi_display.specs.declared.line_char.LineChar.{LineChar}
use Rattle.bidi_display.specs.declared.line_cluster.LineCluster.{LineCluster}
use Rattle.bidi_display.specs.declared.options.DisplayOptions.{DisplayOptions}

-- ---- the characters of a line

-- these characters cover the code units from `start` up to `end` in order, and none is empty
abbrev pub TakeUnits : ℕ → ℕ → List LineChar → Type 0
TakeUnits start end [] = start ≡ end
TakeUnits start end (c ∷ cs) = (c.start ≡ start) × (start < c.end) × TakeUnits c.end end cs

-- characters that begin at the places, each of which ends at the next place
TakeUnits-places : (char : ℕ → LineChar) (place : ℕ → ℕ) (a n end start : ℕ)
    → ((k : ℕ) → a ≤ k → k < a + n → ((char k).start ≡ place k) × ((char k).end ≡ place (k + 1)) × (place k < place (k + 1))) → start ≡ place a → end ≡ place (a + n)
    → TakeUnits start end (map char (range_with_len a n))
TakeUnits-places char place a zero end start at begins ends = begins ∙ sym (ends ∙ ap place (let e : a + 0 ≡ a = omega arith in e))
TakeUnits-places char place a (suc n) end start at begins ends =
    let here = at a (omega arith) (omega arith) in (
      here.0 ∙ sym begins,
      omega (arith, here.1, here.2, begins),
      TakeUnits-places char place (a + 1) n end (char a).end (λ k from below. at k (omega arith) (omega arith)) here.1
          (ends ∙ ap place (let e : a + suc n ≡ (a + 1) + n = omega arith in e)),
    )

TakeUnits-line_chars : (len_of : ℕ → ℕ) → HasUnits len_of → (start end : ℕ) (chars : List ℕ) (classes : List BidiClass) (levels : List ℕ) → end ≡ start + text_len len_of chars
    → TakeUnits start end (line_chars_by len_of start chars classes levels)
TakeUnits-line_chars len_of some start end chars classes levels ends =
    TakeUnits-places (line_char_at len_of start chars classes levels) (λ k. start + unit_index len_of chars k) 0 (length chars) end start
    (λ k from below.
    let within : k < length chars = omega arith in
    let more = unit_index-more len_of chars k 0 within in (refl, omega (arith, more), omega (arith, more, some (get_or chars k 0))))
    (omega (arith, unit_index-zero len_of chars)) (ends ∙ omega (arith, unit_index-end len_of chars (0 + length chars) (omega arith)))

-- ---- clusters one after the other

AreClustersFrom-nil : (start end : ℕ) → start ≡ end → AreClustersFrom start end []
AreClustersFrom-nil start end e = record {
  none = λ _. e;
  not_empty = λ k within. absurd (omega arith);
  first = λ some. absurd (omega arith);
  adjacent = λ k within. absurd (omega arith);
  last = λ k is. absurd (omega arith);
}

-- ---- pieces of it

module _ (options : DisplayOptions) (width_of : List ℕ → ℕ) where
  -- this piece covers the code units from `start` up to `end`
  record IsPiece (start end : ℕ) (piece : List LineChar) : Type 0 where
    begins : cluster_start options width_of piece ≡ start
    ends : cluster_end options width_of piece ≡ end
    some : start < end

  -- and so do these pieces together
  abbrev ArePieces : ℕ → ℕ → List (List LineChar) → Type 0
  ArePieces start end [] = start ≡ end
  ArePieces start end (p ∷ ps) = (middle : ℕ) × IsPiece start middle p × ArePieces middle end ps

  IsPiece-cons : (start middle : ℕ) (c : LineChar) (piece : List LineChar) → c.start ≡ start → start < c.end → IsPiece c.end middle piece → IsPiece start middle (c ∷ piece)
  IsPiece-cons start middle c [] begins some h = absurd (omega (arith, h.ends, h.some))
  IsPiece-cons start middle c (d ∷ ds) begins some h = record { begins = begins; ends = h.ends; some = omega (arith, h.some) }

  IsPiece-one : (start : ℕ) (c : LineChar) → c.start ≡ start → start < c.end → IsPiece start c.end (c ∷ [])
  IsPiece-one start c begins some = record { begins = begins; ends = refl; some = some }

  ArePieces-cons : (start end : ℕ) (c : LineChar) (pieces : List (List LineChar)) (begins_piece : Bool) → c.start ≡ start → start < c.end → ArePieces c.end end pieces
      → ArePieces start end (if begins_piece then (c ∷ []) ∷ pieces else onto_first c pieces)
  ArePieces-cons start end c pieces true begins some h = (c.end, IsPiece-one start c begins some, h)
  ArePieces-cons start end c [] false begins some h = (c.end, IsPiece-one start c begins some, h)
  ArePieces-cons start end c (p ∷ ps) false begins some h = (h.0, IsPiece-cons start h.0 c p begins some h.1, h.2)

  ArePieces-clusters : (start end : ℕ) (before cs : List LineChar) → TakeUnits start end cs → ArePieces start end (clusters_after options before cs)
  ArePieces-clusters start end before [] h = h
  ArePieces-clusters start end before (c ∷ cs) h =
      let read = displayed_before options.dropped before c in
      ArePieces-cons start end c (clusters_after options read cs) (begins_cluster options read cs) h.0 h.1 (ArePieces-clusters c.end end read cs h.2)

  -- ---- the clusters

  AreClustersFrom-cons : (start end : ℕ) (k : LineCluster) (ks : List LineCluster) → k.start ≡ start → start < k.end → AreClustersFrom k.end end ks → AreClustersFrom start end (k ∷ ks)
  AreClustersFrom-cons start end k ks begins some h = record {
    none = λ none. absurd (omega arith);
    not_empty = not_empty;
    first = λ _. begins;
    adjacent = adjacent;
    last = last;
  }
    where
      not_empty : (i : ℕ) → i < suc (length ks) → get_or (map (λ c. c.start) (k ∷ ks)) i 0 < get_or (map (λ c. c.end) (k ∷ ks)) i 0
      not_empty zero within = omega (arith, begins, some)
      not_empty (suc i) within = h.not_empty i (omega arith)

      adjacent : (i : ℕ) → i + 1 < suc (length ks) → get_or (map (λ c. c.end) (k ∷ ks)) i 0 ≡ get_or (map (λ c. c.start) (k ∷ ks)) (i + 1) 0
      adjacent zero within = sym (h.first (omega arith))
      adjacent (suc i) within = let e : suc i + 1 ≡ suc (i + 1) = omega arith in h.adjacent i (omega arith) ∙ sym (ap (λ j. get_or (map (λ c. c.start) (k ∷ ks)) j 0) e)

      last : (i : ℕ) → i + 1 ≡ suc (length ks) → get_or (map (λ c. c.end) (k ∷ ks)) i 0 ≡ end
      last zero is = h.none (omega arith)
      last (suc i) is = h.last i (omega arith)

  AreClustersFrom-pieces : (start end at column : ℕ) (pieces : List (List LineChar)) → ArePieces start end pieces → AreClustersFrom start end (clusters_from options width_of at column pieces)
  AreClustersFrom-pieces start end at column [] h = AreClustersFrom-nil start end h
  AreClustersFrom-pieces start end at column (p ∷ ps) h =
      AreClustersFrom-cons start end _ _ h.1.begins (omega (arith, h.1.ends, h.1.some))
      (AreClustersFrom-pieces (cluster_end options width_of p) end (at + length p) (add_columns column (cluster_width options width_of column p)) ps (subst (λ m. ArePieces m end ps) (sym h.1.ends) h.2))

  -- whatever the options and the widths are
  pub clusters_of-whole : (a : AnalysedText) → HasUnits a.len_of → (level : ℕ) (line : Range ℕ) → IsLine a.len_of a.chars line.start line.end
      → AreClustersFrom line.start line.end (clusters_of options width_of (line_chars a level line))
  unfolding clusters_of line_clusters line_chars
  clusters_of-whole a some level line is_line =
      let chars : List ℕ = subrange a.len_of a.chars line.start line.end in
      AreClustersFrom-pieces line.start line.end 0 0 _ (ArePieces-clusters line.start line.end [] _
      (TakeUnits-line_chars a.len_of some line.start line.end chars (per_char L a.len_of chars (slice_range a.classes line.start line.end)) (line_levels_per_char a level line)
      (omega (arith, text_len-subrange a.len_of some a.chars line.start line.end is_line, is_line.ordered))))

pub none-whole : (start : ℕ) (clusters : List LineCluster) → clusters ≡ [] → AreClustersFrom start start clusters
none-whole start clusters e = subst (AreClustersFrom start start) (sym e) (AreClustersFrom-nil start start refl)
