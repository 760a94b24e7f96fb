-- What an analysis has, and what the calls for each paragraph of a text require and write.
use Rattle.std.specs.Prelude.{◌≡◌, ℕ, ◌≤◌, List, [], ◌∷◌, map, slice_range, Option}
use Rattle.bidi_base.specs.AnalysedText.{AnalysedText, IsAnalysis}
use Rattle.bidi_base.specs.declared.char_data.BidiClass.{BidiClass}
use Rattle.bidi_base.specs.declared.split_rule.SplitRule.{SplitRule}
use Rattle.bidi_base.specs.Isolates.{stored_classes}
use Rattle.bidi_base.specs.Paragraphs.{pieces_by}
use Rattle.bidi_base.specs.Source.{Source}
use Rattle.bidi_base.specs.Stored.{levels_in}
use Rattle.bidi_base.specs.Text.{subrange, per_unit, IsLine}
use Rattle.bidi_base.specs.Texts.{Encoding, Text}
use Rattle.bidi_lines.specs.Analysed.{with_lists}
use Rattle.bidi_paragraphs.specs.ParagraphFlags.{flags_of, paragraph_flags}
use Rattle.bidi_paragraphs.specs.ParagraphInfo.{ranges_of, levels_of}
use Rattle.unicode_bidi.specs.declared.engine.Analyser.{Analyser}
use Rattle.unicode_bidi.specs.declared.engine.Analysis.{Analysis}
use Rattle.bidi_paragraphs.specs.declared.paragraph_flags.ParagraphFlags.{ParagraphFlags}
use Rattle.bidi_paragraphs.specs.declared.paragraph_info.ParagraphInfo.{ParagraphInfo}

-- `a.original_classes()`, `a.levels()` and `a.paragraphs()`
abbrev pub original_classes : Analysis → List BidiClass
original_classes a = a.original_classes.items

abbrev pub levels : Analysis → List ℕ
levels a = a.levels.items

abbrev pub paragraphs : Analysis → List ParagraphInfo
paragraphs a = a.paragraphs.items

-- the flags of each paragraph
abbrev pub flags : Analysis → List ParagraphFlags
flags a = a.flags.items

-- `a.paragraphs()` of an analyser
abbrev pub found_paragraphs : Analyser → List ParagraphInfo
found_paragraphs a = a.found.paragraphs.items

-- `a.flags()` of an analyser
abbrev pub found_flags : Analyser → List ParagraphFlags
found_flags a = a.found.flags.items

-- a text with the stored classes and levels of an analysis
abbrev pub with_analysis : {e : Encoding} → Text e → Analysis → AnalysedText
with_analysis text a = with_lists text (original_classes a) (levels a)

-- the analysis of a text, with the flags of each paragraph
pub record IsFlaggedAnalysis {e : Encoding} (source : Source) (base_level : Option ℕ) (rule : Option SplitRule) (text : Text e)
    (a : Analysis) : Type 0 where
  pub analysis : IsAnalysis source base_level rule (with_analysis text a) (ranges_of (paragraphs a)) (levels_of (paragraphs a))
  pub flags : flags a ≡ paragraph_flags source (pieces_by rule source text.chars)

-- the characters of a paragraph
abbrev pub chars_of : (ℕ → ℕ) → List ℕ → ParagraphInfo → List ℕ
chars_of len_of chars p = subrange len_of chars p.range.start p.range.end

-- the stored levels of a paragraph's code units, from its level
unfoldable pub unit_levels : Source → (ℕ → ℕ) → List ℕ → ParagraphInfo → List ℕ
unit_levels source len_of chars p =
    let piece = chars_of len_of chars p in
    per_unit len_of piece (levels_in p.level (map source.class_of piece) (map source.bracket_of piece))

-- the flags of a paragraph
abbrev pub own_flags : Source → (ℕ → ℕ) → List ℕ → ParagraphInfo → ParagraphFlags
own_flags source len_of chars p = flags_of (map source.class_of (chars_of len_of chars p))

-- a paragraph that cuts no character, with a level up to 125 and with its stored classes in its range of those of the
-- text
pub record CanWrite (source : Source) (len_of : ℕ → ℕ) (chars : List ℕ) (units : List BidiClass) (p : ParagraphInfo) : Type 0 where
  pub line : IsLine len_of chars p.range.start p.range.end
  pub level : p.level ≤ 125
  pub classes : slice_range units p.range.start p.range.end
      ≡ per_unit len_of (chars_of len_of chars p) (stored_classes (map source.class_of (chars_of len_of chars p)))

-- paragraphs that follow one another from `start` to `end`
abbrev pub Follow : ℕ → ℕ → List ParagraphInfo → Type 0
Follow start end [] = start ≡ end
Follow start end (p ∷ ps) = (p.range.start ≡ start) × Follow p.range.end end ps
