-- What follows of an analysis with a base. Without a fallback it is the analysis with an optional base level, and with
-- the fallback 0 it is that without one.
use Rattle.bidi_base.proofs.Common.{◌≡◌, ◌∙◌, ℕ, ◌≤◌, All, List, [], ◌∷◌, length, get_or, map, flat_map, ap, sym, subst, refl, arith, Option, None, IfSome, AnalysedText, AreParagraphs, IsAnalysis, HasOwnUnits, pieces_by, Source}
use Rattle.bidi_base.proofs.Common.{stored_levels, text_len, subrange, per_char, per_unit}
use Rattle.std.specs.Prelude.{zip}
use Rattle.bidi_base.specs.declared.char_data.BidiClass.{BidiClass}
use Rattle.bidi_base.specs.declared.split_rule.SplitRule.{SplitRule}
use Rattle.bidi_base.proofs.PerUnit.{per_char-per_unit}
use Rattle.bidi_base.proofs.TextLemmas.{HasUnits}
use Rattle.bidi_base.proofs.UnitsLemmas.{is_per_char-per_unit}
use Rattle.bidi_text.proofs.PerCharTests.{level_test}
use Rattle.bidi_laws.proofs.LevelLaws.{length-stored_levels}
use Rattle.bidi_laws.proofs.ParagraphsLemmas.{pieces_by-joined}
use Rattle.bidi_laws.proofs.PieceUnits.{length-values}
use Rattle.bidi_paragraphs.specs.declared.paragraph_info.ParagraphInfo.{ParagraphInfo}
use Rattle.bidi_paragraphs.specs.ParagraphInfo.{ranges_of, levels_of}
use Rattle.unicode_bidi.specs.Base.{base_level_of, base_of, level_with, stored_levels_with, AreParagraphsWith, IsAnalysisWith}
use Rattle.unicode_bidi.specs.declared.base.Base.{Base}
use Rattle.unicode_bidi.specs.declared.base.Base.TheVariants.{Auto, AutoOr}
use Rattle.unicode_bidi.proofs.BaseLemmas.{level_with-base_of, stored_levels_with-base_of, stored_levels_with-one, levels-or_zero, stored-or_zero, stored_levels-or_zero}
use Rattle.unicode_bidi.proofs.FoundLaws.{IsAnalysis-found, IsBoundedPair}

-- what the units of a range are depends only on the values that a function gives
HasOwnUnits-alike : (f g : List ℕ → List ℕ) → ((piece : List ℕ) → f piece ≡ g piece) → (len_of : ℕ → ℕ) (chars units : List ℕ) (ranges : List (ℕ × ℕ))
    → All (HasOwnUnits len_of f chars units) ranges → All (HasOwnUnits len_of g chars units) ranges
HasOwnUnits-alike f g alike len_of chars units ranges h k d within =
    let r = get_or ranges k d in
    let piece = subrange len_of chars r.0 r.1 in
    h k d within ∙ ap (per_unit len_of piece) (alike piece)

-- ---- the paragraphs alone

-- the paragraphs that were found, once they have the levels that a base gives them
pub AreParagraphsWith-found : (source : Source) (base : Base) (rule : Option SplitRule) (base_level : Option ℕ) (len_of : ℕ → ℕ) (chars : List ℕ) (classes : List BidiClass)
    (ranges : List (ℕ × ℕ)) (found_levels own_levels : List ℕ) → AreParagraphs source base_level rule len_of chars classes ranges found_levels
    → own_levels ≡ map (level_with source base) (pieces_by rule source chars) → AreParagraphsWith source base rule len_of chars classes ranges own_levels
AreParagraphsWith-found source base rule base_level len_of chars classes ranges found_levels own_levels found of_paragraphs = record {
  classes = found.classes;
  ranges = found.ranges;
  para_levels = of_paragraphs;
  partition = found.partition;
  whole = found.whole;
  by_characters = found.by_characters;
  per_char = found.per_char;
}

-- those with an optional base level
AreParagraphs-with : (source : Source) (base_level : Option ℕ) (rule : Option SplitRule) (len_of : ℕ → ℕ) (chars : List ℕ) (classes : List BidiClass)
    (ranges : List (ℕ × ℕ)) (own_levels : List ℕ) → AreParagraphsWith source (base_of base_level) rule len_of chars classes ranges own_levels
    → AreParagraphs source base_level rule len_of chars classes ranges own_levels
AreParagraphs-with source base_level rule len_of chars classes ranges own_levels h = record {
  classes = h.classes;
  ranges = h.ranges;
  para_levels = h.para_levels ∙ level_with-base_of source base_level (pieces_by rule source chars);
  partition = h.partition;
  whole = h.whole;
  by_characters = h.by_characters;
  per_char = h.per_char;
}

-- those with another base that gives the same levels
AreParagraphsWith-same : (source : Source) (base other : Base) (rule : Option SplitRule) (len_of : ℕ → ℕ) (chars : List ℕ) (classes : List BidiClass)
    (ranges : List (ℕ × ℕ)) (own_levels : List ℕ)
    → map (level_with source base) (pieces_by rule source chars) ≡ map (level_with source other) (pieces_by rule source chars)
    → AreParagraphsWith source base rule len_of chars classes ranges own_levels → AreParagraphsWith source other rule len_of chars classes ranges own_levels
AreParagraphsWith-same source base other rule len_of chars classes ranges own_levels levels h = record {
  classes = h.classes;
  ranges = h.ranges;
  para_levels = h.para_levels ∙ levels;
  partition = h.partition;
  whole = h.whole;
  by_characters = h.by_characters;
  per_char = h.per_char;
}

-- ---- the analysis

module _ (source : Source) (rule : Option SplitRule) (a : AnalysedText) where
  abbrev pieces : List (List ℕ)
  pieces = pieces_by rule source a.chars

  length-levels_with : (base : Base) → length (flat_map (stored_levels_with source base) pieces) ≡ length a.chars
  length-levels_with base =
      length-values (stored_levels_with source base) (λ piece. length-stored_levels source (base_level_of base (map source.class_of piece)) piece) pieces
      ∙ ap length (pieces_by-joined rule source a.chars)

  -- the analysis, from the paragraphs and the levels
  pub IsAnalysisWith-found : (base : Base) (ranges : List (ℕ × ℕ)) (own_levels : List ℕ)
      → AreParagraphsWith source base rule a.len_of a.chars a.classes ranges own_levels
      → a.levels ≡ per_unit a.len_of a.chars (flat_map (stored_levels_with source base) pieces)
      → per_char 0 a.len_of a.chars a.levels ≡ flat_map (stored_levels_with source base) pieces
      → All (IsBoundedPair a.levels) (zip ranges own_levels) → All (HasOwnUnits a.len_of (stored_levels_with source base) a.chars a.levels) ranges
      → IsAnalysisWith source base rule a ranges own_levels
  IsAnalysisWith-found base ranges own_levels found of_levels by_characters bounded own = record {
    paragraphs = found;
    levels = of_levels;
    by_characters = by_characters;
    per_char = grind (arith, of_levels, is_per_char-per_unit, level_test, length-levels_with base);
    bounded = bounded;
    each_by_itself = own;
  }

  pub levels_with-per_char : (base : Base) → HasUnits a.len_of → a.levels ≡ per_unit a.len_of a.chars (flat_map (stored_levels_with source base) pieces)
      → per_char 0 a.len_of a.chars a.levels ≡ flat_map (stored_levels_with source base) pieces
  levels_with-per_char base some e = grind (arith, e, per_char-per_unit a.len_of some 0 a.chars (flat_map (stored_levels_with source base) pieces), length-levels_with base)

  -- ---- a base without a fallback

  module _ (base_level : Option ℕ) where
    -- an analysis with an optional base level is one with its base
    pub IsAnalysisWith-from : (ranges : List (ℕ × ℕ)) (own_levels : List ℕ) → IsAnalysis source base_level rule a ranges own_levels → IsAnalysisWith source (base_of base_level) rule a ranges own_levels
    IsAnalysisWith-from ranges own_levels h =
        IsAnalysisWith-found (base_of base_level) ranges own_levels
        (AreParagraphsWith-found source (base_of base_level) rule base_level a.len_of a.chars a.classes ranges own_levels own_levels h.paragraphs
        (h.paragraphs.para_levels ∙ sym (level_with-base_of source base_level pieces)))
        (h.levels ∙ ap (per_unit a.len_of a.chars) (sym (stored_levels_with-base_of source base_level pieces)))
        (h.by_characters ∙ sym (stored_levels_with-base_of source base_level pieces)) h.bounded
        (HasOwnUnits-alike (stored_levels source base_level) (stored_levels_with source (base_of base_level)) (λ piece. sym (stored_levels_with-one source base_level piece)) a.len_of a.chars a.levels ranges h.each_by_itself)

    -- and the other way round
    pub IsAnalysis-with : (ps : List ParagraphInfo) → HasUnits a.len_of → IfSome base_level (λ level. level ≤ 125)
        → IsAnalysisWith source (base_of base_level) rule a (ranges_of ps) (levels_of ps) → IsAnalysis source base_level rule a (ranges_of ps) (levels_of ps)
    IsAnalysis-with ps some few h =
        IsAnalysis-found source base_level rule a ps some few (AreParagraphs-with source base_level rule a.len_of a.chars a.classes (ranges_of ps) (levels_of ps) h.paragraphs)
        (h.levels ∙ ap (per_unit a.len_of a.chars) (stored_levels_with-base_of source base_level pieces))

  -- ---- the fallback 0

  module _ (base other : Base) (levels : map (level_with source base) pieces ≡ map (level_with source other) pieces)
      (stored : flat_map (stored_levels_with source base) pieces ≡ flat_map (stored_levels_with source other) pieces)
      (alike : (piece : List ℕ) → stored_levels_with source base piece ≡ stored_levels_with source other piece) where
    same_levels : (ranges : List (ℕ × ℕ)) (own_levels : List ℕ) → IsAnalysisWith source base rule a ranges own_levels → IsAnalysisWith source other rule a ranges own_levels
    same_levels ranges own_levels h = record {
      paragraphs = AreParagraphsWith-same source base other rule a.len_of a.chars a.classes ranges own_levels levels h.paragraphs;
      levels = h.levels ∙ ap (per_unit a.len_of a.chars) stored;
      by_characters = h.by_characters ∙ stored;
      per_char = h.per_char;
      bounded = h.bounded;
      each_by_itself = HasOwnUnits-alike (stored_levels_with source base) (stored_levels_with source other) alike a.len_of a.chars a.levels ranges h.each_by_itself;
    }

  -- an analysis with the fallback 0 is one without a fallback, and the other way round
  pub IsAnalysisWith-auto : (ranges : List (ℕ × ℕ)) (own_levels : List ℕ) → IsAnalysisWith source (AutoOr 0) rule a ranges own_levels → IsAnalysisWith source Auto rule a ranges own_levels
  IsAnalysisWith-auto = same_levels (AutoOr 0) Auto (levels-or_zero source pieces) (stored_levels-or_zero source pieces) (stored-or_zero source)

  pub IsAnalysisWith-or_zero : (ranges : List (ℕ × ℕ)) (own_levels : List ℕ) → IsAnalysisWith source Auto rule a ranges own_levels → IsAnalysisWith source (AutoOr 0) rule a ranges own_levels
  IsAnalysisWith-or_zero = same_levels Auto (AutoOr 0) (sym (levels-or_zero source pieces)) (sym (stored_levels-or_zero source pieces)) (λ piece. sym (stored-or_zero source piece))

-- ---- a text that is one paragraph

-- with the whole text as its range, and its level
pub whole-IsAnalysisWith : (source : Source) (base : Base) (a : AnalysedText) (ranges : List (ℕ × ℕ)) (own_levels : List ℕ) → IsAnalysisWith source base None a ranges own_levels
    → (level : ℕ) → own_levels ≡ level ∷ [] → IsAnalysisWith source base None a ((0, text_len a.len_of a.chars) ∷ []) (level ∷ [])
whole-IsAnalysisWith source base a ranges own_levels h level e =
    subst (λ rs. IsAnalysisWith source base None a rs (level ∷ [])) (h.paragraphs.whole refl) (subst (λ ls. IsAnalysisWith source base None a ranges ls) e h)
