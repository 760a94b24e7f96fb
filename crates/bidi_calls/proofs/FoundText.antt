-- What an analysis holds, as a caller's buffers have it.
use Rattle.bidi_base.proofs.Common.{◌≡◌, ◌∙◌, ℕ, List, [], ◌∷◌, map, length, refl, ap}
use Rattle.bidi_base.proofs.Common.{ap₂, sym, Option, length-map, Source}
use Rattle.unicode_bidi.specs.Base.{AreParagraphsWith}
use Rattle.bidi_base.specs.declared.char_data.BidiClass.{BidiClass}
use Rattle.unicode_bidi.specs.declared.base.Base.{Base}
use Rattle.unicode_bidi.specs.ParagraphInfo.{range_of, level_of, ranges_of, levels_of}
use Rattle.bidi_paragraphs.specs.declared.paragraph_info.ParagraphInfo.{ParagraphInfo}
use Rattle.bidi_base.specs.declared.split_rule.SplitRule.{SplitRule}
use Rattle.bidi_numbers.specs.declared.structs.Paragraph.{Paragraph}
use Rattle.bidi_calls.specs.Buffers.{paragraphs_in}
use Rattle.bidi_numbers.specs.Structs.{paragraph_struct, paragraph_structs}

-- a paragraph as a struct
abbrev pub struct_of : ParagraphInfo → Paragraph
struct_of p = paragraph_struct (((range_of p).start, (range_of p).end), level_of p)

structs_of : (ps : List ParagraphInfo) → map struct_of ps ≡ paragraph_structs (ranges_of ps) (levels_of ps)
structs_of [] = refl
structs_of (p ∷ ps) = ap (λ structs. struct_of p ∷ structs) (structs_of ps)

-- the paragraphs of a text
pub structs-found : (source : Source) (base : Base) (rule : Option SplitRule) (len_of : ℕ → ℕ) (chars : List ℕ) (classes : List BidiClass) (ps : List ParagraphInfo)
    → AreParagraphsWith source base rule len_of chars classes (ranges_of ps) (levels_of ps) → map struct_of ps ≡ paragraphs_in source base rule len_of chars
structs-found source base rule len_of chars classes ps h = structs_of ps ∙ ap₂ paragraph_structs h.ranges h.para_levels

-- their number
pub count-found : (source : Source) (base : Base) (rule : Option SplitRule) (len_of : ℕ → ℕ) (chars : List ℕ) (classes : List BidiClass) (ps : List ParagraphInfo)
    → AreParagraphsWith source base rule len_of chars classes (ranges_of ps) (levels_of ps) → length ps ≡ length (paragraphs_in source base rule len_of chars)
count-found source base rule len_of chars classes ps h = sym (length-map ps struct_of) ∙ ap length (structs-found source base rule len_of chars classes ps h)
