-- What the analysis of a paragraph says of its classes, its levels and its level, in the words of the definitions.
use Rattle.bidi_base.proofs.Common.{◌≡◌, ℕ, List, [], ◌∷◌, map, IsTrue, Option, None, len_utf8, text_len, paragraph_level, stored_classes, stored_levels, Source, is_per_char, per_unit, IsAnalysis}
use Rattle.bidi_base.specs.declared.char_data.BidiClass.{BidiClass}
use Rattle.bidi_laws.proofs.OneParagraph.{classes-one, levels-one, para_level-one}
use Rattle.bidi_text.proofs.PerCharTests.{class_eq, level_eq}
use Rattle.bidi_shown.specs.Paragraph.{analysed}

pub analysis-clauses : (source : Source) (base_level : Option ℕ) (chars : List ℕ) (classes : List BidiClass) (levels : List ℕ) (level : ℕ)
    → IsAnalysis source base_level None (analysed chars classes levels) ((0, text_len len_utf8 chars) ∷ []) (level ∷ [])
    → (classes ≡ per_unit len_utf8 chars (stored_classes (map source.class_of chars)))
    × (levels ≡ per_unit len_utf8 chars (stored_levels source base_level chars))
    × (level ≡ paragraph_level base_level (map source.class_of chars))
    × IsTrue (is_per_char class_eq len_utf8 chars classes)
    × IsTrue (is_per_char level_eq len_utf8 chars levels)
analysis-clauses source base_level chars classes levels level h = (
  classes-one source base_level (analysed chars classes levels) _ _ h,
  levels-one source base_level (analysed chars classes levels) _ _ h,
  cc (para_level-one source base_level (analysed chars classes levels) _ _ h),
  h.paragraphs.per_char,
  h.per_char,
)
