-- A list of characters that is analysed as one paragraph.
use Rattle.bidi_base.proofs.Common.{◌≡◌, ℕ, List, length, map, Option, None, ap, ◌∙◌, arith, append-nil, length-map, IsAnalysis, paragraph_level}
use Rattle.bidi_base.proofs.Common.{stored_classes, first_or, Source, stored_levels, text_classes, text_levels, paragraph_levels, one_unit}
use Rattle.bidi_base.specs.declared.char_data.BidiClass.{BidiClass}
use Rattle.bidi_laws.proofs.LevelLaws.{length-stored_levels}
use Rattle.bidi_laws.proofs.StoredSteps.{length-stored_classes}
use Rattle.bidi_base.proofs.PerUnit.{per_unit-one_unit}

module _ (source : Source) (base_level : Option ℕ) (chars : List ℕ) (classes : List BidiClass) (levels own : List ℕ) (ranges : List (ℕ × ℕ))
    (h : IsAnalysis source base_level None (record { len_of = one_unit; chars = chars; classes = classes; levels = levels }) ranges own) where
  pub alone-classes : classes ≡ stored_classes (map source.class_of chars)
  unfolding text_classes
  alone-classes = grind (arith, h.paragraphs.classes, append-nil, length-stored_classes, length-map, per_unit-one_unit)

  pub alone-levels : levels ≡ stored_levels source base_level chars
  unfolding text_levels
  alone-levels = grind (arith, h.levels, append-nil, length-stored_levels, per_unit-one_unit)

  pub alone-level : first_or 0 own ≡ paragraph_level base_level (map source.class_of chars)
  unfolding paragraph_levels
  alone-level = ap (first_or 0) h.paragraphs.para_levels

  pub length-alone_levels : length levels ≡ length chars
  length-alone_levels = ap length alone-levels ∙ length-stored_levels source base_level chars
