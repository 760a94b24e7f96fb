-- The lines of an analysed paragraph are those of its characters.
use Rattle.bidi_base.proofs.Common.{◌≡◌, ◌∙◌, ℕ, List, [], ◌∷◌, None, Some, length, map, flat_map, refl, sym, ap, chars, len_utf8, IsUtf8, Source, Run, Range}
use Rattle.bidi_base.proofs.Common.{run_of, paragraph_level, stored_classes, stored_levels, per_char, flat_map-map, encodes-chars, text_len, IsAnalysis}
use Rattle.bidi_base.specs.declared.char_data.BidiClass.{BidiClass}
use Rattle.bidi_base.specs.declared.char_data.BidiClass.TheVariants.{L}
use Rattle.bidi_laws.proofs.LevelLaws.{text_classes-one, text_levels-one}
use Rattle.bidi_laws.proofs.OneParagraph.{para_level-one}
use Rattle.bidi_shown.specs.Breaks.{lines_of_text}
use Rattle.bidi_terminal.specs.Bases.{level_of_base}
use Rattle.bidi_text.proofs.StrLemmas.{text_len-chars}
use Rattle.bidi_shown.specs.Plain.{plain_paragraph, plain_range, plain_ranges, shown_levels}
use Rattle.bidi_shown.specs.declared.view.View.{View}
use Rattle.bidi_shown.specs.Paragraph.{analysed, shown_in}

module _ (source : Source) (view : View) (own : List ℕ) (classes : List BidiClass) (levels : List ℕ) (level : ℕ)
    (h : IsAnalysis source (level_of_base view.base) None (analysed own classes levels) ((0, text_len len_utf8 own) ∷ []) (level ∷ [])) where
  char_classes : per_char L len_utf8 own classes ≡ stored_classes (map source.class_of own)
  char_classes = h.paragraphs.by_characters ∙ text_classes-one source own

  char_levels : per_char 0 len_utf8 own levels ≡ stored_levels source (level_of_base view.base) own
  char_levels = h.by_characters ∙ text_levels-one source (level_of_base view.base) own

  of_level : level ≡ paragraph_level (level_of_base view.base) (map source.class_of own)
  of_level = cc (para_level-one source (level_of_base view.base) (analysed own classes levels) _ _ h)

  pub one_line : (run : Run) → shown_in (analysed own classes levels) level run ≡ plain_range source view own run
  unfolding shown_levels
  one_line run = simp (char_classes, char_levels, of_level)

  each_line : (runs : List Run) → flat_map (shown_in (analysed own classes levels) level) runs ≡ flat_map (plain_range source view own) runs
  each_line [] = refl
  each_line (run ∷ runs) = simp (one_line run, each_line runs)

  pub lines-shown : (lines : List (Range ℕ)) → map run_of lines ≡ plain_ranges source view.width own
      → flat_map (λ (r : Range ℕ). shown_in (analysed own classes levels) level (run_of r)) lines ≡ plain_paragraph source view own
  unfolding plain_paragraph
  lines-shown lines are =
      sym (flat_map-map (shown_in (analysed own classes levels) level) run_of lines)
      ∙ ap (flat_map (shown_in (analysed own classes levels) level)) are ∙ each_line (plain_ranges source view.width own)

-- the lines of a width, from the bytes of the text
pub ranges-Some : (source : Source) (width : ℕ) (text : List ℕ) → IsUtf8 text → lines_of_text source width text ≡ plain_ranges source (Some width) (chars text)
ranges-Some source width text utf8 = ap (lines_of_text source width) (sym (encodes-chars text utf8))

-- the whole text
pub ranges-None : (source : Source) (text : List ℕ) → IsUtf8 text → (0, length text) ∷ [] ≡ plain_ranges source None (chars text)
ranges-None source text utf8 = ap (λ n. (0, n) ∷ []) (sym (text_len-chars text utf8))
