-- The records of an analysed text, and the clauses that they mean, in the words of the definitions. They say all that
-- the earlier records said.
use Rattle.bidi_base.proofs.Common.{◌≡◌, ◌≤◌, ◌↔◌, ◌∙◌, ℕ, Bool, true, false, ◌||◌, List, [], ◌∷◌, map, length, refl, ap, sym, arith, All, All-cons, All-head, All-nil, All-tail, IsTrue, IfSome, Option, Some, None, then_some, slice_range, take_all}
use Rattle.bidi_base.proofs.Common.{cr_lf_together, each_separator, is_per_char, is_paragraph_separator, paragraph_levels, per_char, per_unit, pieces_by, ranges_from, stored_levels, subrange, text_classes, text_levels, text_len}
use Rattle.bidi_base.proofs.Common.{AnalysedText, AreLevelsFrom, AreParagraphs, IsAnalysis, Source}
use Rattle.std.specs.Prelude.{zip}
use Rattle.bidi_base.specs.declared.char_data.BidiClass.{BidiClass}
use Rattle.bidi_base.specs.declared.char_data.BidiClass.TheVariants.{L}
use Rattle.bidi_base.specs.declared.split_rule.SplitRule.{SplitRule}
use Rattle.bidi_base.specs.declared.split_rule.SplitRule.TheVariants.{EachSeparator, CrLfTogether}
use Rattle.bidi_base.specs.Direction.{is_pure_ltr}
use Rattle.bidi_base.specs.Laws.{BoundaryNeutralsAreAlike, StaysLeftToRight}
use Rattle.bidi_base.specs.Paragraphs.{has_inner_end, AreParagraphRanges}
use Rattle.bidi_base.proofs.PerUnit.{length-per_unit}
use Rattle.bidi_laws.proofs.LevelLaws.{length-text_levels}
use Rattle.bidi_laws.proofs.OneParagraph.{classes-one, levels-one, para_level-one}
use Rattle.bidi_laws.proofs.ParagraphsLemmas.{pieces_by-joined}
use Rattle.bidi_text.proofs.PerCharTests.{class_eq, level_eq}
use Rattle.bidi_paragraphs.specs.declared.paragraph_info.ParagraphInfo.{ParagraphInfo}
use Rattle.bidi_paragraphs.specs.ParagraphInfo.{ranges_of, levels_of}
use Rattle.unicode_bidi.specs.Analysis.{ObeysLaws}
use Rattle.bidi_vectors_refusals.proofs.EarlierRecords.{has_inner_separator, has_unpaired_separator, AreSeparatedRanges, AreCrLfParagraphRanges, AreParagraphRangesBy, HasParagraphs, IsAnalysed, IsAnalysedAsOne, IsAnalysedBy, IsAnalysedText, IsWalked}

-- the values of a range of units are those that its characters have as the whole text
abbrev IsOwn : {X : Type 0} → (ℕ → ℕ) → List ℕ → (List ℕ → List X) → List X → ℕ × ℕ → Type 0
IsOwn len_of chars values units r =
    let piece = subrange len_of chars r.0 r.1 in
    slice_range units r.0 r.1 ≡ per_unit len_of piece (values piece)

-- no level of a range of units is below that of its paragraph or above the maximum
abbrev IsBounded : List ℕ → (ℕ × ℕ) × ℕ → Type 0
IsBounded levels p = All (λ level. (p.1 ≤ level) × (level ≤ 126)) (slice_range levels p.0.0 p.0.1)

-- ---- the clauses of the records

module _ (source : Source) (base_level : Option ℕ) (rule : Option SplitRule) (len_of : ℕ → ℕ) (chars : List ℕ) (classes : List BidiClass) (ranges : List (ℕ × ℕ))
    (para_levels : List ℕ) where
  abbrev pieces : List (List ℕ)
  pieces = pieces_by rule source chars

  -- before any level is resolved
  pub paragraphs-clauses : AreParagraphs source base_level rule len_of chars classes ranges para_levels
      ↔ (classes ≡ per_unit len_of chars (text_classes source pieces))
      × (ranges ≡ ranges_from len_of 0 pieces)
      × (para_levels ≡ paragraph_levels source base_level pieces)
      × IfSome rule (λ r. AreParagraphRanges r source len_of chars ranges)
      × (rule ≡ None → ranges ≡ (0, text_len len_of chars) ∷ [])
      × (per_char L len_of chars classes ≡ text_classes source pieces)
      × IsTrue (is_per_char class_eq len_of chars classes)
  paragraphs-clauses = (
    λ all. (all.classes, all.ranges, all.para_levels, all.partition, all.whole, all.by_characters, all.per_char),
    λ all. record {
      classes = all.0;
      ranges = all.1;
      para_levels = all.2;
      partition = all.3;
      whole = all.4;
      by_characters = all.5;
      per_char = all.6;
    },
  )

  -- with the stored levels
  pub analysis-clauses : (levels : List ℕ) →
      let a : AnalysedText = record { len_of = len_of; chars = chars; classes = classes; levels = levels } in
      IsAnalysis source base_level rule a ranges para_levels
      ↔ AreParagraphs source base_level rule len_of chars classes ranges para_levels
      × (levels ≡ per_unit len_of chars (text_levels source base_level pieces))
      × (per_char 0 len_of chars levels ≡ text_levels source base_level pieces)
      × IsTrue (is_per_char level_eq len_of chars levels)
      × All (IsBounded levels) (zip ranges para_levels)
      × All (IsOwn len_of chars (stored_levels source base_level) levels) ranges
  analysis-clauses levels = (
    λ all. (all.paragraphs, all.levels, all.by_characters, all.per_char, all.bounded, all.each_by_itself),
    λ all. record {
      paragraphs = all.0;
      levels = all.1;
      by_characters = all.2;
      per_char = all.3;
      bounded = all.4;
      each_by_itself = all.5;
    },
  )

-- the laws of levels
pub laws-clauses : (source : Source) (base_level : Option ℕ) → ObeysLaws source base_level ↔ BoundaryNeutralsAreAlike source base_level × StaysLeftToRight source base_level
laws-clauses source base_level =
    (λ all. (all.boundary_neutrals_alike, all.stays_left_to_right), λ all. record { boundary_neutrals_alike = all.0; stays_left_to_right = all.1 })

-- ---- the ranges of paragraphs, as they were stated before

inner-separated : (source : Source) (piece : List ℕ) → has_inner_end (each_separator source) piece ≡ has_inner_separator source piece
inner-separated source [] = refl
inner-separated source (c ∷ []) = refl
inner-separated source (c ∷ d ∷ cs) = ap (λ inner. is_paragraph_separator (source.class_of c) || inner) (inner-separated source (d ∷ cs))

inner-unpaired : (source : Source) (piece : List ℕ) → has_inner_end (cr_lf_together source) piece ≡ false → has_unpaired_separator source piece ≡ false
inner-unpaired source [] e = refl
inner-unpaired source (c ∷ []) e = refl
inner-unpaired source (c ∷ d ∷ []) e = grind arith
inner-unpaired source (c ∷ d ∷ x ∷ xs) e = grind (arith, inner-unpaired source (d ∷ x ∷ xs))

module _ (source : Source) (len_of : ℕ → ℕ) (chars : List ℕ) (ranges : List (ℕ × ℕ)) where
  ranges-separated : AreParagraphRanges EachSeparator source len_of chars ranges → AreSeparatedRanges source len_of chars ranges
  ranges-separated h = record {
    partition = h.partition;
    lines = h.lines;
    ended = h.ended;
    undivided = λ k d within. sym (inner-separated source _) ∙ h.undivided k d within;
  }

  ranges-cr_lf : AreParagraphRanges CrLfTogether source len_of chars ranges → AreCrLfParagraphRanges source len_of chars ranges
  ranges-cr_lf h = record {
    partition = h.partition;
    lines = h.lines;
    ended = h.ended;
    undivided = λ k d within. inner-unpaired source _ (h.undivided k d within);
  }

  ranges-rule : (rule : Option SplitRule) → IfSome rule (λ r. AreParagraphRanges r source len_of chars ranges) → IfSome rule (λ r. AreParagraphRangesBy r source len_of chars ranges)
  ranges-rule None h = tt
  ranges-rule (Some EachSeparator) h = ranges-separated h
  ranges-rule (Some CrLfTogether) h = ranges-cr_lf h

-- ---- the analysis, as each public call stated it before

module _ (levels : List ℕ) where
  abbrev IsBoundedParagraph : ParagraphInfo → Type 0
  IsBoundedParagraph p = AreLevelsFrom p.level (slice_range levels p.range.start p.range.end)

  bounded-unzip : (ps : List ParagraphInfo) → All (IsBounded levels) (zip (ranges_of ps) (levels_of ps)) → All IsBoundedParagraph ps
  bounded-unzip [] h = All-nil IsBoundedParagraph
  bounded-unzip (p ∷ ps) h =
      All-cons IsBoundedParagraph p ps (All-head (IsBounded levels) ((p.range.start, p.range.end), p.level) (zip (ranges_of ps) (levels_of ps)) h)
      (bounded-unzip ps (All-tail (IsBounded levels) ((p.range.start, p.range.end), p.level) (zip (ranges_of ps) (levels_of ps)) h))

module _ (source : Source) (base_level : Option ℕ) (a : AnalysedText) (ps : List ParagraphInfo) where
  -- `engine::analyse_with_rule`, and `BidiInfo::new_with_rule` in each encoding
  pub analysed_by-law : (rule : Option SplitRule) → IsAnalysis source base_level rule a (ranges_of ps) (levels_of ps) → IsAnalysedBy source base_level rule a ps
  analysed_by-law rule h = record {
    analysis = record { classes = h.paragraphs.classes; levels = h.levels; ranges = h.paragraphs.ranges; paragraph_levels = h.paragraphs.para_levels };
    parted = ranges-rule source a.len_of a.chars (ranges_of ps) rule h.paragraphs.partition;
    whole = h.paragraphs.whole;
    per_char = record { classes = h.paragraphs.per_char; levels = h.per_char };
    by_characters = record { classes = h.paragraphs.by_characters; levels = h.by_characters };
    bounded = bounded-unzip a.levels ps h.bounded;
    each_by_itself = h.each_by_itself;
  }

  -- `engine::analyse`, and with `split` true `BidiInfo::new_with_data_source` in each encoding
  pub analysed-law : (split : Bool) → IsAnalysis source base_level (then_some split EachSeparator) a (ranges_of ps) (levels_of ps) → IsAnalysed source base_level split a ps
  analysed-law true h = record {
    analysis = record { classes = h.paragraphs.classes; levels = h.levels; ranges = h.paragraphs.ranges; paragraph_levels = h.paragraphs.para_levels };
    parted = λ is. ranges-separated source a.len_of a.chars (ranges_of ps) h.paragraphs.partition;
    whole = λ is. absurd (cc is);
    per_char = record { classes = h.paragraphs.per_char; levels = h.per_char };
    by_characters = record { classes = h.paragraphs.by_characters; levels = h.by_characters };
    bounded = bounded-unzip a.levels ps h.bounded;
    each_by_itself = h.each_by_itself;
  }
  analysed-law false h = record {
    analysis = record { classes = h.paragraphs.classes; levels = h.levels; ranges = h.paragraphs.ranges; paragraph_levels = h.paragraphs.para_levels };
    parted = λ is. absurd (cc is);
    whole = λ is. h.paragraphs.whole refl;
    per_char = record { classes = h.paragraphs.per_char; levels = h.per_char };
    by_characters = record { classes = h.paragraphs.by_characters; levels = h.by_characters };
    bounded = bounded-unzip a.levels ps h.bounded;
    each_by_itself = h.each_by_itself;
  }

  -- `Analyser::analyse`
  pub analysed_text-law : (rule : Option SplitRule) → IsAnalysis source base_level rule a (ranges_of ps) (levels_of ps) → IsAnalysedText source base_level rule a ps
  analysed_text-law rule h =
      let all = analysed_by-law rule h in
      record { analysis = all.analysis; per_char = all.per_char; bounded = all.bounded }

-- `ParagraphBidiInfo::new_with_data_source` in each encoding
module _ (source : Source) (base_level : Option ℕ) (a : AnalysedText) (level : ℕ) (h : IsAnalysis source base_level None a ((0, text_len a.len_of a.chars) ∷ []) (level ∷ [])) where
  one_level : length a.levels ≡ text_len a.len_of a.chars
  one_level =
      ap length h.levels
      ∙ length-per_unit a.len_of a.chars (text_levels source base_level (a.chars ∷ [])) (length-text_levels source base_level (a.chars ∷ []) a.chars (pieces_by-joined None source a.chars))

  all_levels : slice_range a.levels 0 (text_len a.len_of a.chars) ≡ a.levels
  all_levels = grind (arith, one_level, take_all)

  pub analysed_as_one-law : (pure : Bool) → pure ≡ is_pure_ltr (map source.class_of a.chars) → IsAnalysedAsOne source base_level a level pure
  analysed_as_one-law pure is_pure = record {
    analysis = record {
      classes = classes-one source base_level a _ _ h;
      levels = levels-one source base_level a _ _ h;
      paragraph_level = cc (para_level-one source base_level a _ _ h);
      pure_ltr = is_pure;
    };
    per_char = record { classes = h.paragraphs.per_char; levels = h.per_char };
    bounded = rw all_levels at (All-head (IsBounded a.levels) ((0, text_len a.len_of a.chars), level) [] h.bounded);
  }

module _ (source : Source) (base_level : Option ℕ) (len_of : ℕ → ℕ) (chars : List ℕ) (stored : List BidiClass) (ps : List ParagraphInfo) where
  -- `first_pass::walk`
  pub walked-law : (rule : Option SplitRule) → AreParagraphs source base_level rule len_of chars stored (ranges_of ps) (levels_of ps) → IsWalked source base_level rule len_of chars stored ps
  walked-law rule h = record { classes = h.classes; ranges = h.ranges; levels = h.para_levels }

  -- `InitialInfo::new_with_data_source` in each encoding
  pub has_paragraphs-law : AreParagraphs source base_level (Some EachSeparator) len_of chars stored (ranges_of ps) (levels_of ps) → HasParagraphs source base_level len_of chars stored ps
  has_paragraphs-law h = record {
    classes = h.classes;
    ranges = h.ranges;
    levels = h.para_levels;
    parted = ranges-separated source len_of chars (ranges_of ps) h.partition;
    per_char = h.per_char;
  }
