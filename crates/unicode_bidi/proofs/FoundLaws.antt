-- What follows of the analysis of a text that a rule splits into its paragraphs.
use Rattle.bidi_base.proofs.Common.{◌≡◌, ◌≤◌, ℕ, List, [], ◌∷◌, arith, Option, All, IfSome, slice_range, AnalysedText, AreParagraphs, IsAnalysis, AreLevelsFrom, pieces_by, Source, text_levels, per_unit}
use Rattle.bidi_base.proofs.Common.{All-cons, All-head, All-nil, All-tail}
use Rattle.std.specs.Prelude.{zip}
use Rattle.bidi_base.specs.declared.split_rule.SplitRule.{SplitRule}
use Rattle.bidi_base.proofs.PerUnit.{per_char-per_unit}
use Rattle.bidi_base.proofs.TextLemmas.{HasUnits}
use Rattle.bidi_base.proofs.UnitsLemmas.{is_per_char-per_unit}
use Rattle.bidi_text.proofs.PerCharTests.{level_test}
use Rattle.bidi_laws.proofs.LevelLaws.{BoundaryNeutralsAreAlike-all, StaysLeftToRight-all, length-text_levels}
use Rattle.bidi_laws.proofs.ParagraphsLemmas.{pieces_by-joined}
use Rattle.bidi_paragraphs.specs.declared.paragraph_info.ParagraphInfo.{ParagraphInfo}
use Rattle.bidi_paragraphs.specs.ParagraphInfo.{ranges_of, levels_of}
use Rattle.unicode_bidi.specs.Analysis.{ObeysLaws}
use Rattle.unicode_bidi.proofs.ParagraphUnits.{paragraphs-HasOwnUnits, paragraphs-AreLevelsFrom}

-- what holds of each paragraph holds of its range with its level
module _ (levels : List ℕ) where
  abbrev pub IsBounded : ParagraphInfo → Type 0
  IsBounded p = AreLevelsFrom p.level (slice_range levels p.range.start p.range.end)

  abbrev pub IsBoundedPair : (ℕ × ℕ) × ℕ → Type 0
  IsBoundedPair p = AreLevelsFrom p.1 (slice_range levels p.0.0 p.0.1)

  pub bounded-zip : (ps : List ParagraphInfo) → All IsBounded ps → All IsBoundedPair (zip (ranges_of ps) (levels_of ps))
  bounded-zip [] h = All-nil IsBoundedPair
  bounded-zip (p ∷ ps) h =
      All-cons IsBoundedPair ((p.range.start, p.range.end), p.level) (zip (ranges_of ps) (levels_of ps)) (All-head IsBounded p ps h) (bounded-zip ps (All-tail IsBounded p ps h))

-- the analysis, from the paragraphs and the stored levels alone
module _ (source : Source) (base_level : Option ℕ) (rule : Option SplitRule) (a : AnalysedText) (ps : List ParagraphInfo) (some : HasUnits a.len_of)
    (few : IfSome base_level (λ level. level ≤ 125)) (found : AreParagraphs source base_level rule a.len_of a.chars a.classes (ranges_of ps) (levels_of ps))
    (of_levels : a.levels ≡ per_unit a.len_of a.chars (text_levels source base_level (pieces_by rule source a.chars))) where
  abbrev pieces : List (List ℕ)
  pieces = pieces_by rule source a.chars

  bounded-found : All (IsBounded a.levels) ps
  bounded-found =
      rw of_levels (paragraphs-AreLevelsFrom source a.len_of some a.chars pieces (pieces_by-joined rule source a.chars) ps found.ranges base_level found.para_levels few)

  pub IsAnalysis-found : IsAnalysis source base_level rule a (ranges_of ps) (levels_of ps)
  IsAnalysis-found = record {
    paragraphs = found;
    levels = of_levels;
    by_characters = grind (arith, of_levels, per_char-per_unit a.len_of some 0 a.chars (text_levels source base_level pieces), length-text_levels source base_level pieces a.chars, pieces_by-joined rule source a.chars);
    per_char = grind (arith, is_per_char-per_unit, level_test, length-text_levels, pieces_by-joined);
    bounded = bounded-zip a.levels ps bounded-found;
    each_by_itself = rw of_levels (paragraphs-HasOwnUnits source a.len_of some a.chars pieces (pieces_by-joined rule source a.chars) ps found.ranges base_level found.para_levels);
  }

-- the laws, whatever the text is
pub laws-obeyed : (source : Source) (base_level : Option ℕ) → ObeysLaws source base_level
laws-obeyed source base_level = record {
  boundary_neutrals_alike = BoundaryNeutralsAreAlike-all source base_level;
  stays_left_to_right = StaysLeftToRight-all source base_level;
}
