-- What the accessors of `ParagraphBidiInfo` return.
use Rattle.std.specs.Prelude.{◌≡◌, ℕ, Bool, List, map}
use Rattle.bidi_base.specs.AnalysedText.{AnalysedText}
use Rattle.bidi_base.specs.declared.char_data.BidiClass.{BidiClass}
use Rattle.bidi_base.specs.Direction.{is_pure_ltr as is_pure_ltr_of}
use Rattle.bidi_base.specs.Source.{Source}
use Rattle.bidi_text.specs.declared.text.str_text.StrText.{StrText}
use Rattle.bidi_text.specs.declared.text.utf16_text.Utf16Text.{Utf16Text}
use Rattle.bidi_lines.specs.Analysed as of
use Rattle.unicode_bidi.specs.declared.paragraph_bidi_info.ParagraphBidiInfo.{ParagraphBidiInfo}

-- `i.text()`, of UTF-8
abbrev pub text : {C I L : Type 0} {t : _} {c : _} {i : _} {l : _} → ParagraphBidiInfo StrText C I L t c i l → List ℕ
text i = i.paragraph.text.text.now

-- `i.text()`, of UTF-16
abbrev pub units : {C I L : Type 0} {t : _} {c : _} {i : _} {l : _} → ParagraphBidiInfo Utf16Text C I L t c i l → List ℕ
units i = i.paragraph.text.units.now

module _ {T C I L : Type 0} {t : _} {c : _} {i : _} {l : _} (info : ParagraphBidiInfo T C I L t c i l) where
  -- `i.text_source()`
  abbrev pub text_source : T
  text_source = info.paragraph.text

  -- the text, as its characters, with `i.original_classes()` and `i.levels()`
  abbrev pub analysed : AnalysedText
  analysed = of.analysed info.paragraph

  -- `i.original_classes()`, `i.levels()`, `i.paragraph_level()` and `i.is_pure_ltr()`
  abbrev pub original_classes : List BidiClass
  original_classes = analysed.classes

  abbrev pub levels : List ℕ
  levels = analysed.levels

  abbrev pub paragraph_level : ℕ
  paragraph_level = info.paragraph_level

  abbrev pub is_pure_ltr : Bool
  is_pure_ltr = info.is_pure_ltr

  -- `i.is_pure_ltr()` is true exactly if no source class of the text can change the direction
  abbrev pub IsPureLtrBy : Source → Type 0
  IsPureLtrBy source = is_pure_ltr ≡ is_pure_ltr_of (map source.class_of analysed.chars)
