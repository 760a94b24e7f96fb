-- The paragraphs of a text, once they have the levels that a base gives them.
use Rattle.bidi_base.proofs.Common.{◌≡◌, ◌∙◌, ℕ, List, [], IsLine, map, flat_map, ap, sym, All, Option, AnalysedText, AreParagraphs, HasOwnUnits, pieces_by, per_unit, stored_levels, text_len, Source, map-map}
use Rattle.bidi_base.specs.declared.char_data.BidiClass.{BidiClass}
use Rattle.bidi_base.specs.declared.split_rule.SplitRule.{SplitRule}
use Rattle.bidi_base.proofs.TextLemmas.{HasUnits}
use Rattle.bidi_laws.proofs.ParagraphsLemmas.{pieces_by-joined, ranges-lines}
use Rattle.bidi_paragraphs.specs.declared.paragraph_info.ParagraphInfo.{ParagraphInfo}
use Rattle.bidi_paragraphs.specs.ParagraphFlags.{paragraph_flags}
use Rattle.bidi_paragraphs.specs.ParagraphInfo.{ranges_of, levels_of}
use Rattle.unicode_bidi.specs.Base.{level_in_text, level_with, stored_levels_with, HasLowLevel, AreParagraphsWith, IsAnalysisWith}
use Rattle.unicode_bidi.specs.Engine.{unit_levels, own_flags, CanWrite, Follow, chars_of}
use Rattle.unicode_bidi.specs.declared.base.Base.{Base}
use Rattle.unicode_bidi.proofs.BaseLaws.{AreParagraphsWith-found, IsAnalysisWith-found, levels_with-per_char}
use Rattle.unicode_bidi.proofs.BaseLemmas.{level_with-few, stored_levels_with-level}
use Rattle.unicode_bidi.proofs.FoundLaws.{bounded-zip, IsBounded}
use Rattle.unicode_bidi.proofs.ParagraphUnits.{paragraphs-Follow, paragraphs-chars, paragraphs-flags, paragraphs-CanWrite, paragraphs-levels, paragraphs-own_bounded, paragraphs-HasOwnLevels}

-- `found` are the paragraphs of the first pass, and `ps` the same with other levels
pub based-AreParagraphsWith : (source : Source) (base : Base) (rule : Option SplitRule) (base_level : Option ℕ) (len_of : ℕ → ℕ) (units : HasUnits len_of) (chars : List ℕ)
    (classes : List BidiClass) (found ps : List ParagraphInfo) → AreParagraphs source base_level rule len_of chars classes (ranges_of found) (levels_of found)
    → ranges_of ps ≡ ranges_of found → levels_of ps ≡ map (level_in_text source base len_of chars) found
    → AreParagraphsWith source base rule len_of chars classes (ranges_of ps) (levels_of ps)
based-AreParagraphsWith source base rule base_level len_of units chars classes found ps are ranges levels =
    let pieces = pieces_by rule source chars in
    AreParagraphsWith-found source base rule base_level len_of chars classes (ranges_of ps) (levels_of found) (levels_of ps) (rw ranges are)
    (levels ∙ sym (map-map (level_with source base) (chars_of len_of chars) found)
    ∙ ap (map (level_with source base)) (paragraphs-chars source len_of units chars pieces (pieces_by-joined rule source chars) found are.ranges))

module _ (source : Source) (base : Base) (rule : Option SplitRule) (len_of : ℕ → ℕ) (units : HasUnits len_of) (chars : List ℕ) (classes : List BidiClass)
    (ps : List ParagraphInfo) (are : AreParagraphsWith source base rule len_of chars classes (ranges_of ps) (levels_of ps)) where
  abbrev pieces : List (List ℕ)
  pieces = pieces_by rule source chars

  pub based-Follow : Follow 0 (text_len len_of chars) ps
  based-Follow = paragraphs-Follow source len_of units chars pieces (pieces_by-joined rule source chars) ps are.ranges

  -- no range cuts a character
  pub based-lines : All (λ (r : ℕ × ℕ). IsLine len_of chars r.0 r.1) (ranges_of ps)
  based-lines = simp (pieces_by-joined rule source chars, ← are.ranges) at (ranges-lines len_of units [] pieces)

  pub based-flags : paragraph_flags source pieces ≡ map (own_flags source len_of chars) ps
  based-flags = paragraphs-flags source len_of units chars pieces (pieces_by-joined rule source chars) ps are.ranges

  pub based-CanWrite : HasLowLevel base → All (CanWrite source len_of chars classes) ps
  based-CanWrite low =
      paragraphs-CanWrite source len_of units chars pieces (pieces_by-joined rule source chars) ps are.ranges (level_with source base) are.para_levels classes are.classes (level_with-few source base low)

  based-units : flat_map (unit_levels source len_of chars) ps ≡ per_unit len_of chars (flat_map (stored_levels_with source base) pieces)
  based-units =
      paragraphs-levels source len_of units chars pieces (pieces_by-joined rule source chars) ps are.ranges (level_with source base) are.para_levels
      ∙ ap (per_unit len_of chars) (stored_levels_with-level source base pieces)

  -- with their levels written, they are the analysis
  module _ (low : HasLowLevel base) (stored : List ℕ) (e : stored ≡ flat_map (unit_levels source len_of chars) ps) where
    abbrev analysed : AnalysedText
    analysed = record { len_of = len_of; chars = chars; classes = classes; levels = stored }

    based-stored : stored ≡ per_unit len_of chars (flat_map (stored_levels_with source base) pieces)
    based-stored = e ∙ based-units

    based-bounded : All (IsBounded stored) ps
    unfolding stored_levels
    based-bounded =
        rw based-stored
        (paragraphs-own_bounded source len_of units chars pieces (pieces_by-joined rule source chars) ps are.ranges (level_with source base) are.para_levels (level_with-few source base low))

    based-own : All (HasOwnUnits len_of (stored_levels_with source base) chars stored) (ranges_of ps)
    unfolding stored_levels
    based-own =
        rw based-stored (paragraphs-HasOwnLevels source len_of units chars pieces (pieces_by-joined rule source chars) ps are.ranges (level_with source base) are.para_levels)

    pub based-IsAnalysisWith : IsAnalysisWith source base rule analysed (ranges_of ps) (levels_of ps)
    based-IsAnalysisWith =
        IsAnalysisWith-found source rule analysed base (ranges_of ps) (levels_of ps) are based-stored
        (levels_with-per_char source rule analysed base units based-stored) (bounded-zip stored ps based-bounded) based-own
