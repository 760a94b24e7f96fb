-- What follows of the stored classes of a text, and of the ranges and the levels of its paragraphs.
use Rattle.bidi_base.proofs.Common.{◌≡◌, ℕ, List, [], ◌∷◌, Option, Some, None, IfSome, text_len, AreParagraphs, paragraph_levels, pieces_by, ranges_from, Source, text_classes, per_unit, per_char, arith}
use Rattle.bidi_base.specs.declared.char_data.BidiClass.{BidiClass}
use Rattle.bidi_base.specs.declared.char_data.BidiClass.TheVariants.{L}
use Rattle.bidi_base.specs.declared.split_rule.SplitRule.{SplitRule}
use Rattle.bidi_base.specs.Paragraphs.{AreParagraphRanges}
use Rattle.bidi_base.proofs.PerUnit.{per_char-per_unit}
use Rattle.bidi_base.proofs.TextLemmas.{HasUnits}
use Rattle.bidi_base.proofs.UnitsLemmas.{is_per_char-per_unit}
use Rattle.bidi_laws.proofs.CrLfLemmas.{rule-AreParagraphRanges}
use Rattle.bidi_laws.proofs.ParagraphsLemmas.{length-text_classes, pieces_by-joined}
use Rattle.bidi_text.proofs.PerCharTests.{class_test}

module _ (source : Source) (base_level : Option ℕ) (rule : Option SplitRule) (len_of : ℕ → ℕ) (some : HasUnits len_of) (chars : List ℕ) where
  one_range : (ranges : List (ℕ × ℕ)) → ranges ≡ ranges_from len_of 0 (pieces_by rule source chars) → rule ≡ None → ranges ≡ (0, text_len len_of chars) ∷ []
  one_range ranges e is = grind arith

  partition-found : (r : Option SplitRule) (ranges : List (ℕ × ℕ)) → ranges ≡ ranges_from len_of 0 (pieces_by r source chars) → IfSome r (λ r. AreParagraphRanges r source len_of chars ranges)
  partition-found None ranges e = tt
  partition-found (Some r) ranges e = rw e (rule-AreParagraphRanges r source len_of some chars)

  pub AreParagraphs-found : (classes : List BidiClass) (ranges : List (ℕ × ℕ)) (own_levels : List ℕ)
      → classes ≡ per_unit len_of chars (text_classes source (pieces_by rule source chars)) → ranges ≡ ranges_from len_of 0 (pieces_by rule source chars)
      → own_levels ≡ paragraph_levels source base_level (pieces_by rule source chars) → AreParagraphs source base_level rule len_of chars classes ranges own_levels
  AreParagraphs-found classes ranges own_levels of_classes of_ranges of_levels = record {
    classes = of_classes;
    ranges = of_ranges;
    para_levels = of_levels;
    partition = partition-found rule ranges of_ranges;
    whole = one_range ranges of_ranges;
    by_characters =
        grind (
          arith,
          of_classes,
          per_char-per_unit len_of some L chars (text_classes source (pieces_by rule source chars)),
          length-text_classes source (pieces_by rule source chars),
          pieces_by-joined rule source chars,
        );
    per_char = grind (arith, is_per_char-per_unit, class_test, length-text_classes, pieces_by-joined);
  }
