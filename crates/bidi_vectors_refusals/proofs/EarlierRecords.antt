-- The forms that public contracts had before they cited `AreParagraphs` and `IsAnalysis`. They are kept here alone.
use Rattle.bidi_base.proofs.Common.{◌≡◌, ℕ, Bool, true, false, not, ◌&&◌, ◌||◌, ◌==◌, if◌then◌else◌, List, [], ◌∷◌, length, map, All, IsTrue, IfSome, Option, None, slice_range}
use Rattle.bidi_base.proofs.Common.{begins_with_line_feed, ends_with_separator, each_separator, is_paragraph_separator, paragraph_level, paragraph_levels, paragraphs_of, pieces_by, ranges_from, stored_classes, stored_levels}
use Rattle.bidi_base.proofs.Common.{text_classes, text_levels, per_char, per_unit, subrange, text_len, AnalysedText, AreLevelsFrom, HasOwnUnits, IsLine, IsPartition, IsPerCharText, Source}
use Rattle.bidi_base.specs.declared.char_data.BidiClass.{BidiClass}
use Rattle.bidi_base.specs.declared.char_data.BidiClass.TheVariants.{L}
use Rattle.bidi_base.specs.declared.split_rule.SplitRule.{SplitRule}
use Rattle.bidi_base.specs.declared.split_rule.SplitRule.TheVariants.{EachSeparator, CrLfTogether}
use Rattle.bidi_base.specs.Direction.{is_pure_ltr}
use Rattle.bidi_base.specs.Paragraphs.{AllButLast}
use Rattle.bidi_base.specs.PerChar.{HaveClass}
use Rattle.bidi_paragraphs.specs.declared.paragraph_info.ParagraphInfo.{ParagraphInfo}
use Rattle.bidi_paragraphs.specs.ParagraphInfo.{level_of, range_of, ranges_of, levels_of}

-- ---- the ranges of paragraphs

-- some character before the last is a separator
abbrev pub has_inner_separator : Source → List ℕ → Bool
has_inner_separator source [] = false
has_inner_separator source (c ∷ []) = false
has_inner_separator source (c ∷ d ∷ cs) = is_paragraph_separator (source.class_of c) || has_inner_separator source (d ∷ cs)

-- the ranges of paragraphs, if each separator ends one
pub record AreSeparatedRanges (source : Source) (len_of : ℕ → ℕ) (chars : List ℕ) (ranges : List (ℕ × ℕ)) : Type 0 where
  pub partition : IsPartition 0 (text_len len_of chars) ranges
  pub lines : All (λ r. IsLine len_of chars r.0 r.1) ranges
  pub ended : AllButLast (λ r. IsTrue (ends_with_separator source (subrange len_of chars r.0 r.1))) ranges
  pub undivided : All (λ r. has_inner_separator source (subrange len_of chars r.0 r.1) ≡ false) ranges

-- what follows is nothing but the line feed that closes a pair
abbrev pub is_line_feed_alone : Source → List ℕ → Bool
is_line_feed_alone source after = begins_with_line_feed source after && length after == 1

-- some character before the last is a separator, but for a carriage return directly before the line feed that
-- is the last
abbrev pub has_unpaired_separator : Source → List ℕ → Bool
has_unpaired_separator source [] = false
has_unpaired_separator source (c ∷ []) = false
has_unpaired_separator source (c ∷ d ∷ cs) =
    (is_paragraph_separator (source.class_of c) && not (c == 0x0D && is_line_feed_alone source (d ∷ cs))) || has_unpaired_separator source (d ∷ cs)

-- the same, if a carriage return and the line feed after it stay together
pub record AreCrLfParagraphRanges (source : Source) (len_of : ℕ → ℕ) (chars : List ℕ) (ranges : List (ℕ × ℕ)) : Type 0 where
  pub partition : IsPartition 0 (text_len len_of chars) ranges
  pub lines : All (λ r. IsLine len_of chars r.0 r.1) ranges
  pub ended : AllButLast (λ r. IsTrue (ends_with_separator source (subrange len_of chars r.0 r.1))) ranges
  pub undivided : All (λ r. has_unpaired_separator source (subrange len_of chars r.0 r.1) ≡ false) ranges

abbrev pub AreParagraphRangesBy : SplitRule → Source → (ℕ → ℕ) → List ℕ → List (ℕ × ℕ) → Type 0
AreParagraphRangesBy EachSeparator source len_of chars ranges = AreSeparatedRanges source len_of chars ranges
AreParagraphRangesBy CrLfTogether source len_of chars ranges = AreCrLfParagraphRanges source len_of chars ranges

-- ---- a text and its paragraphs

-- the paragraphs, or the whole text as one
abbrev pub pieces_of : Bool → Source → List ℕ → List (List ℕ)
pieces_of split source chars = if split then paragraphs_of (each_separator source) chars else chars ∷ []

-- the text's characters have these classes and levels
pub record HasCharValues (a : AnalysedText) (char_classes : List BidiClass) (char_levels : List ℕ) : Type 0 where
  pub classes : per_char L a.len_of a.chars a.classes ≡ char_classes
  pub levels : per_char 0 a.len_of a.chars a.levels ≡ char_levels

-- a text that is cut into these pieces has its stored classes and levels, and these are the ranges and the levels of
-- its paragraphs
pub record IsAnalysisOf (source : Source) (base_level : Option ℕ) (pieces : List (List ℕ)) (a : AnalysedText)
    (own_ranges : List (ℕ × ℕ)) (own_levels : List ℕ) : Type 0 where
  pub classes : a.classes ≡ per_unit a.len_of a.chars (text_classes source pieces)
  pub levels : a.levels ≡ per_unit a.len_of a.chars (text_levels source base_level pieces)
  pub ranges : own_ranges ≡ ranges_from a.len_of 0 pieces
  pub paragraph_levels : own_levels ≡ paragraph_levels source base_level pieces

module _ (source : Source) (base_level : Option ℕ) where
  -- an analysed text: with `split` each separator ends a paragraph, and without it the whole text is one
  pub record IsAnalysed (split : Bool) (a : AnalysedText) (paragraphs : List ParagraphInfo) : Type 0 where
    pub analysis : IsAnalysisOf source base_level (pieces_of split source a.chars) a (ranges_of paragraphs) (levels_of paragraphs)
    pub parted : split ≡ true → AreSeparatedRanges source a.len_of a.chars (ranges_of paragraphs)
    pub whole : split ≡ false → ranges_of paragraphs ≡ (0, text_len a.len_of a.chars) ∷ []
    pub per_char : IsPerCharText a
    pub by_characters : let pieces = pieces_of split source a.chars in HasCharValues a (text_classes source pieces) (text_levels source base_level pieces)
    pub bounded : All (λ p. AreLevelsFrom (level_of p) (slice_range a.levels (range_of p).start (range_of p).end)) paragraphs
    pub each_by_itself : All (HasOwnUnits a.len_of (stored_levels source base_level) a.chars a.levels) (ranges_of paragraphs)

  -- an analysed text whose paragraphs end where a rule says; without a rule, the whole text is one paragraph
  pub record IsAnalysedBy (rule : Option SplitRule) (a : AnalysedText) (paragraphs : List ParagraphInfo) : Type 0 where
    pub analysis : IsAnalysisOf source base_level (pieces_by rule source a.chars) a (ranges_of paragraphs) (levels_of paragraphs)
    pub parted : IfSome rule (λ r. AreParagraphRangesBy r source a.len_of a.chars (ranges_of paragraphs))
    pub whole : rule ≡ None → ranges_of paragraphs ≡ (0, text_len a.len_of a.chars) ∷ []
    pub per_char : IsPerCharText a
    pub by_characters : let pieces = pieces_by rule source a.chars in HasCharValues a (text_classes source pieces) (text_levels source base_level pieces)
    pub bounded : All (λ p. AreLevelsFrom (level_of p) (slice_range a.levels (range_of p).start (range_of p).end)) paragraphs
    pub each_by_itself : All (HasOwnUnits a.len_of (stored_levels source base_level) a.chars a.levels) (ranges_of paragraphs)

  -- a text that is one paragraph
  pub record IsParagraphAnalysis (a : AnalysedText) (level : ℕ) (pure : Bool) : Type 0 where
    pub classes : a.classes ≡ per_unit a.len_of a.chars (stored_classes (map source.class_of a.chars))
    pub levels : a.levels ≡ per_unit a.len_of a.chars (stored_levels source base_level a.chars)
    pub paragraph_level : level ≡ paragraph_level base_level (map source.class_of a.chars)
    pub pure_ltr : pure ≡ is_pure_ltr (map source.class_of a.chars)

  pub record IsAnalysedAsOne (a : AnalysedText) (level : ℕ) (pure : Bool) : Type 0 where
    pub analysis : IsParagraphAnalysis a level pure
    pub per_char : IsPerCharText a
    pub bounded : AreLevelsFrom level a.levels

  -- the stored classes of a text, and its paragraphs with their levels
  pub record HasParagraphs (len_of : ℕ → ℕ) (chars : List ℕ) (stored : List BidiClass) (paragraphs : List ParagraphInfo) : Type 0 where
    pub classes : stored ≡ per_unit len_of chars (text_classes source (pieces_of true source chars))
    pub ranges : ranges_of paragraphs ≡ ranges_from len_of 0 (pieces_of true source chars)
    pub levels : levels_of paragraphs ≡ paragraph_levels source base_level (pieces_of true source chars)
    pub parted : AreSeparatedRanges source len_of chars (ranges_of paragraphs)
    pub per_char : HaveClass len_of chars stored

  -- the clauses of `first_pass::walk`
  pub record IsWalked (rule : Option SplitRule) (len_of : ℕ → ℕ) (chars : List ℕ) (stored : List BidiClass) (paragraphs : List ParagraphInfo) : Type 0 where
    pub classes : stored ≡ per_unit len_of chars (text_classes source (pieces_by rule source chars))
    pub ranges : ranges_of paragraphs ≡ ranges_from len_of 0 (pieces_by rule source chars)
    pub levels : levels_of paragraphs ≡ paragraph_levels source base_level (pieces_by rule source chars)

  -- the clauses of `Analyser::analyse`
  pub record IsAnalysedText (rule : Option SplitRule) (a : AnalysedText) (paragraphs : List ParagraphInfo) : Type 0 where
    pub analysis : IsAnalysisOf source base_level (pieces_by rule source a.chars) a (ranges_of paragraphs) (levels_of paragraphs)
    pub per_char : IsPerCharText a
    pub bounded : All (λ p. AreLevelsFrom (level_of p) (slice_range a.levels (range_of p).start (range_of p).end)) paragraphs
