-- The levels of a text, written paragraph by paragraph.
use Rattle.bidi_base.proofs.Common.{◌≡◌, Option, Some, ℕ, ◌+◌, ◌-◌, ◌<◌, ◌≤◌, List, [], ◌∷◌, ◌++◌, length, get_or, take, drop, map, refl, subst, ◌∙◌, append_assoc, append-nil, arith, length-append}
use Rattle.bidi_base.proofs.Common.{zero-add, take-append_seam, drop-append-add, Range, All, IfSome, slice_range, get_or-map, take_more, drop_more, drop-drop, length-map, flat_map-map}
use Rattle.bidi_base.proofs.Common.{sum_by-append, map-map, paragraph_level, stored_classes, HasOwnUnits, AreLevelsFrom, ranges_from, Source, levels_in, stored_levels, text_classes, text_levels}
use Rattle.bidi_base.proofs.Common.{paragraph_levels, text_len, subrange, per_unit, IsLine, flat_map, flat_map-append}
use Rattle.bidi_lines.proofs.RunText.{flat_map-same_on}
use Rattle.bidi_base.specs.declared.char_data.BidiClass.{BidiClass}
use Rattle.bidi_laws.proofs.LevelLaws.{length-stored_levels, stored_levels-AreLevelsFrom, All-per_unit}
use Rattle.bidi_laws.proofs.StoredSteps.{length-stored_classes}
use Rattle.bidi_base.proofs.UnitIndexLemmas.{text_len-subrange}
use Rattle.bidi_base.proofs.PerUnit.{length-per_unit}
use Rattle.bidi_base.proofs.TextLemmas.{HasUnits, is_boundary-le, subrange-middle}
use Rattle.bidi_laws.proofs.ParagraphsLemmas.{ranges-lines, joined}
use Rattle.bidi_laws.proofs.PieceUnits.{per_unit-pieces, HasOwnUnits-pieces}
use Rattle.bidi_laws.proofs.ResolvedLemmas.{length-levels_in}
use Rattle.bidi_paragraphs.specs.declared.paragraph_info.ParagraphInfo.{ParagraphInfo}
use Rattle.unicode_bidi.specs.Engine.{unit_levels, own_flags, CanWrite, Follow, chars_of}
use Rattle.bidi_paragraphs.specs.ParagraphFlags.{flags_of, paragraph_flags}
use Rattle.bidi_paragraphs.specs.ParagraphInfo.{range_of, level_of, ranges_of, levels_of}

-- ---- one paragraph

-- the parts of the lists of the whole text, where `units` is the range of a paragraph
pub record IsPart (len_of : ℕ → ℕ) (chars : List ℕ) (units : Range ℕ) (piece : List ℕ) : Type 0 where
  pub ordered : units.start ≤ units.end
  pub within : units.end ≤ text_len len_of chars
  pub long : text_len len_of piece ≡ units.end - units.start

pub paragraph-IsPart : (len_of : ℕ → ℕ) → HasUnits len_of → (chars : List ℕ) (p : ParagraphInfo) (units : Range ℕ) → units ≡ range_of p
    → IsLine len_of chars p.range.start p.range.end → IsPart len_of chars units (subrange len_of chars units.start units.end)
paragraph-IsPart len_of h chars p units e line = grind (arith, is_boundary-le, text_len-subrange)

-- the pass over its own characters, in the levels of the whole text
pub paragraph-written : (source : Source) (len_of : ℕ → ℕ) (chars : List ℕ) (p : ParagraphInfo) (units : Range ℕ) (piece : List ℕ) (level : ℕ) (levels new : List ℕ)
    → units ≡ range_of p → piece ≡ subrange len_of chars units.start units.end → level ≡ level_of p → units.start ≤ units.end
    → new ≡ per_unit len_of piece (levels_in level (map source.class_of piece) (map source.bracket_of piece))
    → take units.start levels ++ (new ++ drop (units.end - units.start) (drop units.start levels)) ≡ take p.range.start levels ++ (unit_levels source len_of chars p ++ drop p.range.end levels)
unfolding unit_levels
paragraph-written source len_of chars p units piece level levels new is_range is_piece is_level ordered e =
    let n : units.start + (units.end - units.start) ≡ units.end = omega arith in
    cc (drop-drop (units.end - units.start) units.start levels)

pub length-unit_levels : (source : Source) (len_of : ℕ → ℕ) → HasUnits len_of → (chars : List ℕ) (p : ParagraphInfo)
    → IsLine len_of chars p.range.start p.range.end → length (unit_levels source len_of chars p) ≡ p.range.end - p.range.start
unfolding unit_levels
length-unit_levels source len_of h chars p line = grind (arith, length-per_unit, length-levels_in, length-map, text_len-subrange)

-- ---- one paragraph after another

-- `start` are the levels before the walk, and `levels` those after k paragraphs, each of which has its own levels
module _ (own : ParagraphInfo → List ℕ) (start : List ℕ) (ps : List ParagraphInfo) where
  abbrev pub written : ℕ → List ℕ
  written k = flat_map own (take k ps)

  pub record AreParagraphsWritten (k : ℕ) (levels : List ℕ) : Type 0 where
    pub all : levels ≡ written k ++ drop (length (written k)) start
    pub follow : Follow (length (written k)) (length start) (drop k ps)

  pub AreParagraphsWritten-more : (k : ℕ) (levels new : List ℕ) (p : ParagraphInfo) → k < length ps → p ≡ get_or ps k p → p.range.start ≤ p.range.end → length (own p) ≡ p.range.end - p.range.start
      → new ≡ take p.range.start levels ++ (own p ++ drop p.range.end levels) → AreParagraphsWritten k levels → AreParagraphsWritten (k + 1) new
  AreParagraphsWritten-more k levels new p within is order long e h =
      let more : written (k + 1) ≡ written k ++ own p = simp (take_more ps k p within, ← is, flat_map-append, append-nil) in
      let next = simp (drop_more ps k p within, ← is) at h.follow in
      grind (arith, more, next, take-append_seam, drop-append-add, drop-drop, append_assoc, length-append)

-- ---- the paragraphs of a text

-- what holds of each range holds of each paragraph
of_ranges : (P : ℕ × ℕ → Type 0) (ps : List ParagraphInfo) → All P (ranges_of ps) → All (λ p. P (p.range.start, p.range.end)) ps
of_ranges P ps h k d within =
    let ends : ParagraphInfo → ℕ × ℕ = λ p. (p.range.start, p.range.end) in
    subst P (get_or-map ends ps k d (ends d) within) (h k (ends d) (omega (arith, within, length-map ps ends)))

ranges-Follow : (len_of : ℕ → ℕ) (from end : ℕ) (ps : List ParagraphInfo) (pieces : List (List ℕ)) → ranges_of ps ≡ ranges_from len_of from pieces
    → from + text_len len_of (joined pieces) ≡ end → Follow from end ps
ranges-Follow len_of from end [] [] ranges e = omega arith
ranges-Follow len_of from end [] (piece ∷ pieces) ranges e = absurd (cc ranges)
ranges-Follow len_of from end (p ∷ ps) [] ranges e = absurd (cc ranges)
ranges-Follow len_of from end (p ∷ ps) (piece ∷ pieces) ranges e = grind (arith, sum_by-append, ranges-Follow len_of (from + text_len len_of piece) end ps pieces)

-- the characters of the ranges are the pieces
ranges-chars : (len_of : ℕ → ℕ) → HasUnits len_of → (front : List ℕ) (pieces : List (List ℕ))
    → map (λ r. subrange len_of (front ++ joined pieces) r.0 r.1) (ranges_from len_of (text_len len_of front) pieces) ≡ pieces
ranges-chars len_of units front [] = refl
ranges-chars len_of units front (piece ∷ pieces) = grind (arith, append_assoc, sum_by-append, subrange-middle, ranges-chars len_of units (front ++ piece) pieces)

-- the paragraphs of a text, in its pieces
module _ (source : Source) (len_of : ℕ → ℕ) (units : HasUnits len_of) (chars : List ℕ) (pieces : List (List ℕ))
    (whole : joined pieces ≡ chars) (ps : List ParagraphInfo) (ranges : ranges_of ps ≡ ranges_from len_of 0 pieces) where
  pub paragraphs-Follow : Follow 0 (text_len len_of chars) ps
  paragraphs-Follow = ranges-Follow len_of 0 (text_len len_of chars) ps pieces ranges (simp (whole, zero-add))

  pub paragraphs-chars : map (chars_of len_of chars) ps ≡ pieces
  paragraphs-chars = simp (whole, ← ranges, map-map) at (ranges-chars len_of units [] pieces)

  pub paragraphs-flags : paragraph_flags source pieces ≡ map (own_flags source len_of chars) ps
  unfolding paragraph_flags
  paragraphs-flags = simp (← paragraphs-chars, map-map)

  pub paragraphs-lines : All (λ p. IsLine len_of chars (range_of p).start (range_of p).end) ps
  paragraphs-lines = of_ranges (λ r. IsLine len_of chars r.0 r.1) ps (simp (whole, ← ranges) at (ranges-lines len_of units [] pieces))

  -- what the walk over them is given, and what it leaves, where `own_level` is the level of a paragraph's characters
  module _ (own_level : List ℕ → ℕ) (levels : levels_of ps ≡ map own_level pieces) where
    -- the stored levels of a paragraph's characters
    abbrev own_levels : List ℕ → List ℕ
    own_levels piece = levels_in (own_level piece) (map source.class_of piece) (map source.bracket_of piece)

    length-own_levels : (piece : List ℕ) → length (own_levels piece) ≡ length piece
    length-own_levels piece = grind (arith, length-levels_in, length-map)

    -- the level of each paragraph is that of its characters
    pub paragraphs-level : All (λ p. p.level ≡ own_level (chars_of len_of chars p)) ps
    paragraphs-level k d within =
        let own : ParagraphInfo → ℕ = λ p. own_level (chars_of len_of chars p) in
        cc (simp (← paragraphs-chars, map-map) at levels, get_or-map level_of ps k d 0 within, get_or-map own ps k d 0 within)

    pub paragraphs-levels : flat_map (unit_levels source len_of chars) ps ≡ per_unit len_of chars (flat_map own_levels pieces)
    unfolding unit_levels
    paragraphs-levels =
        let own : List ℕ → List ℕ = λ piece. per_unit len_of piece (own_levels piece) in
        let same = flat_map-same_on (unit_levels source len_of chars) (λ p. own (chars_of len_of chars p)) ps (λ k d within. simp (paragraphs-level k d within)) in
        cc (same, per_unit-pieces own_levels length-own_levels len_of pieces, flat_map-map own (chars_of len_of chars) ps, paragraphs-chars)

    pub paragraphs-CanWrite : (classes : List BidiClass) → classes ≡ per_unit len_of chars (text_classes source pieces)
        → ((piece : List ℕ) → own_level piece ≤ 125) → All (CanWrite source len_of chars classes) ps
    unfolding text_classes
    paragraphs-CanWrite classes e few k d within =
        let stored : List ℕ → List BidiClass = λ piece. stored_classes (map source.class_of piece) in
        let one_each : (piece : List ℕ) → length (stored piece) ≡ length piece = λ piece. length-stored_classes (map source.class_of piece) ∙ length-map piece source.class_of in
        record {
          line = paragraphs-lines k d within;
          level = rw (paragraphs-level k d within) (few (chars_of len_of chars (get_or ps k d)));
          classes = of_ranges (HasOwnUnits len_of stored chars classes) ps (rw (ranges, e) (HasOwnUnits-pieces stored one_each len_of units chars pieces whole)) k d within;
        }

    -- each paragraph has the levels that its characters have by themselves
    pub paragraphs-HasOwnLevels : All (HasOwnUnits len_of own_levels chars (per_unit len_of chars (flat_map own_levels pieces))) (ranges_of ps)
    paragraphs-HasOwnLevels = rw ranges (HasOwnUnits-pieces own_levels length-own_levels len_of units chars pieces whole)

    -- its levels are at least its own, and at most the greatest
    pub paragraphs-own_bounded : ((piece : List ℕ) → own_level piece ≤ 125)
        → All (λ p. AreLevelsFrom p.level (slice_range (per_unit len_of chars (flat_map own_levels pieces)) p.range.start p.range.end)) ps
    unfolding stored_levels paragraph_level
    paragraphs-own_bounded few k d within =
        let piece : List ℕ = chars_of len_of chars (get_or ps k d) in
        let own = of_ranges (HasOwnUnits len_of own_levels chars (per_unit len_of chars (flat_map own_levels pieces))) ps paragraphs-HasOwnLevels k d within in
        rw (paragraphs-level k d within, own)
        (All-per_unit (λ level. (own_level piece ≤ level) × (level ≤ 126)) len_of piece (own_levels piece)
        (stored_levels-AreLevelsFrom source (Some (own_level piece)) piece (few piece)))

  -- where they have a base level, or the levels of their characters
  module _ (base_level : Option ℕ) (levels : levels_of ps ≡ paragraph_levels source base_level pieces) where
    pub paragraphs-level_by : All (λ p. p.level ≡ paragraph_level base_level (map source.class_of (chars_of len_of chars p))) ps
    unfolding paragraph_levels
    paragraphs-level_by = paragraphs-level (λ piece. paragraph_level base_level (map source.class_of piece)) levels

    -- each paragraph has the levels that its characters have by themselves
    pub paragraphs-HasOwnUnits : All (HasOwnUnits len_of (stored_levels source base_level) chars (per_unit len_of chars (text_levels source base_level pieces))) (ranges_of ps)
    unfolding text_levels
    paragraphs-HasOwnUnits = rw ranges (HasOwnUnits-pieces (stored_levels source base_level) (length-stored_levels source base_level) len_of units chars pieces whole)

    -- its levels are at least its own, and at most the greatest
    pub paragraphs-AreLevelsFrom : IfSome base_level (λ level. level ≤ 125)
        → All (λ p. AreLevelsFrom p.level (slice_range (per_unit len_of chars (text_levels source base_level pieces)) p.range.start p.range.end)) ps
    paragraphs-AreLevelsFrom few k d within =
        let piece : List ℕ = chars_of len_of chars (get_or ps k d) in
        let own = of_ranges (HasOwnUnits len_of (stored_levels source base_level) chars (per_unit len_of chars (text_levels source base_level pieces))) ps paragraphs-HasOwnUnits k d within in
        rw (paragraphs-level_by k d within, own)
        (All-per_unit (λ level. (paragraph_level base_level (map source.class_of piece) ≤ level) × (level ≤ 126)) len_of piece (stored_levels source base_level piece)
        (stored_levels-AreLevelsFrom source base_level piece few))

-- ---- a text of one paragraph

-- the one element of a list
pub only : {X Y : Type 0} (f : X → Y) (xs : List X) (x : X) (y : Y) → map f xs ≡ y ∷ [] → x ≡ get_or xs 0 x → f x ≡ y
only f [] x y e is = absurd (cc e)
only f (z ∷ xs) x y e is = cc

pub flags-one : (source : Source) (piece : List ℕ) → paragraph_flags source (piece ∷ []) ≡ flags_of (map source.class_of piece) ∷ []
unfolding paragraph_flags
flags-one source piece = refl

-- ---- the paragraphs that are found

pub paragraphs-are_lines : (len_of : ℕ → ℕ) (chars : List ℕ) (ps : List ParagraphInfo)
    → All (λ r. IsLine len_of chars r.0 r.1) (ranges_of ps) → All (λ p. IsLine len_of chars (range_of p).start (range_of p).end) ps
paragraphs-are_lines len_of chars ps lines = of_ranges (λ r. IsLine len_of chars r.0 r.1) ps lines
