-- Base levels of paragraphs: what each base says, and what an analysis with one has.
use Rattle.std.specs.Prelude.{◌≡◌, ℕ, ◌≤◌, All, List, [], ◌∷◌, map, flat_map, zip, slice_range, Option, Some, None, IfSome, is_some, if◌then◌else◌}
use Rattle.bidi_base.specs.AnalysedText.{AnalysedText}
use Rattle.bidi_base.specs.declared.char_data.BidiClass.{BidiClass}
use Rattle.bidi_base.specs.declared.char_data.BidiClass.TheVariants.{L}
use Rattle.bidi_base.specs.declared.split_rule.SplitRule.{SplitRule}
use Rattle.bidi_base.specs.Isolates.{deciding_class, paragraph_level}
use Rattle.bidi_base.specs.Laws.{HasOwnUnits, AreLevelsFrom}
use Rattle.bidi_base.specs.Paragraphs.{pieces_by, ranges_from, AreParagraphRanges}
use Rattle.bidi_base.specs.PerChar.{HaveClass, HaveLevel}
use Rattle.bidi_base.specs.Source.{Source}
use Rattle.bidi_base.specs.Stored.{text_classes, stored_levels}
use Rattle.bidi_base.specs.Text.{text_len, per_char, per_unit}
use Rattle.bidi_base.specs.Texts.{Encoding, Text, IsLine}
use Rattle.bidi_paragraphs.specs.ParagraphInfo.{range_of}
use Rattle.bidi_paragraphs.specs.declared.paragraph_info.ParagraphInfo.{ParagraphInfo}
use Rattle.unicode_bidi.specs.declared.base.Base.{Base}
use Rattle.unicode_bidi.specs.declared.base.Base.TheVariants.{Level, Auto, AutoOr}
use Rattle.unicode_bidi.specs.Engine.{chars_of}

-- ---- what a base says

-- the base level (HL1) of a paragraph of these source classes, if there is one; without one, its characters decide (P2,
-- P3)
abbrev pub base_level_of : Base → List BidiClass → Option ℕ
base_level_of (Level level) classes = Some level
base_level_of Auto classes = None
base_level_of (AutoOr level) classes = if is_some (deciding_class classes) then None else Some level

-- the level that a base names, if it names one, is at most the maximum explicit level
abbrev pub HasLowLevel : Base → Type 0
HasLowLevel (Level level) = level ≤ 125
HasLowLevel Auto = Unit {0}
HasLowLevel (AutoOr level) = level ≤ 125

-- the base of an optional base level
abbrev pub base_of : Option ℕ → Base
base_of (Some level) = Level level
base_of None = Auto

-- the level that every paragraph has, whatever its characters are, if there is one
abbrev pub fixed_level : Base → Option ℕ
fixed_level (Level level) = Some level
fixed_level Auto = None
fixed_level (AutoOr level) = None

-- ---- paragraphs, each given as its characters

-- the paragraph level (BD4)
abbrev pub level_with : Source → Base → List ℕ → ℕ
level_with source base piece =
    let classes = map source.class_of piece in
    paragraph_level (base_level_of base classes) classes

-- the stored levels of the characters
abbrev pub stored_levels_with : Source → Base → List ℕ → List ℕ
stored_levels_with source base piece = stored_levels source (base_level_of base (map source.class_of piece)) piece

-- ---- the paragraphs of a text

-- the range of a paragraph cuts no character
abbrev pub CutsNoChar : {e : Encoding} → Text e → ParagraphInfo → Type 0
CutsNoChar text p = IsLine text (range_of p).start (range_of p).end

-- the level of a paragraph with a base
abbrev pub level_in_text : Source → Base → (ℕ → ℕ) → List ℕ → ParagraphInfo → ℕ
level_in_text source base len_of chars p = level_with source base (chars_of len_of chars p)

-- a paragraph that has the base level, if there is one, or else the level of its characters (P2, P3)
abbrev pub HasLevelBy : Source → Option ℕ → (ℕ → ℕ) → List ℕ → ParagraphInfo → Type 0
HasLevelBy source base_level len_of chars p =
    p.level ≡ paragraph_level base_level (map source.class_of (chars_of len_of chars p))

-- ---- what is found with a base, in a text that a split rule cuts into paragraphs; without one, it is one paragraph

module _ (source : Source) (base : Base) (rule : Option SplitRule) where
  -- P1 to P3 and X5c: these are the stored classes of the text, and the ranges and the levels of its paragraphs
  pub record AreParagraphsWith (len_of : ℕ → ℕ) (chars : List ℕ) (original_classes : List BidiClass)
      (own_ranges : List (ℕ × ℕ)) (own_levels : List ℕ) : Type 0 where
    pub classes : original_classes ≡ per_unit len_of chars (text_classes source (pieces_by rule source chars))
    pub ranges : own_ranges ≡ ranges_from len_of 0 (pieces_by rule source chars)
    pub para_levels : own_levels ≡ map (level_with source base) (pieces_by rule source chars)
    -- ---- what follows from these three, here so that a caller need not prove it
    -- with a split rule, every code unit is in one paragraph, and separators are only at the ends of paragraphs; with
    -- `CrLfTogether`, a U+000D may also come directly before the U+000A that ends its paragraph
    pub partition : IfSome rule (λ r. AreParagraphRanges r source len_of chars own_ranges)
    -- without a split rule, there is one paragraph, the whole text
    pub whole : rule ≡ None → own_ranges ≡ (0, text_len len_of chars) ∷ []
    -- the classes of the characters depend only on the characters, the data source and the split rule; so two texts
    -- with the same characters have the same ones in all encodings
    pub by_characters : per_char L len_of chars original_classes ≡ text_classes source (pieces_by rule source chars)
    -- all code units of a character have the same class
    pub per_char : HaveClass len_of chars original_classes

  -- P1 to I2: the text also has its stored levels
  pub record IsAnalysisWith (a : AnalysedText) (own_ranges : List (ℕ × ℕ)) (own_levels : List ℕ) : Type 0 where
    pub paragraphs : AreParagraphsWith a.len_of a.chars a.classes own_ranges own_levels
    pub levels : a.levels
        ≡ per_unit a.len_of a.chars (flat_map (stored_levels_with source base) (pieces_by rule source a.chars))
    -- ---- what follows from these two
    -- the levels of the characters depend only on the characters, the data source, the base and the split rule
    pub by_characters : per_char 0 a.len_of a.chars a.levels
        ≡ flat_map (stored_levels_with source base) (pieces_by rule source a.chars)
    -- all code units of a character have the same level
    pub per_char : HaveLevel a.len_of a.chars a.levels
    -- no level is below that of its paragraph or above the maximum
    pub bounded : All (λ p. AreLevelsFrom p.1 (slice_range a.levels p.0.0 p.0.1)) (zip own_ranges own_levels)
    -- each paragraph has the levels that its characters would have as the whole text
    pub each_by_itself : All (HasOwnUnits a.len_of (stored_levels_with source base) a.chars a.levels) own_ranges
