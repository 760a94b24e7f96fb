-- What the accessors of `BidiInfo` return.
use Rattle.std.specs.Prelude.{ℕ, List}
use Rattle.bidi_base.specs.AnalysedText.{AnalysedText}
use Rattle.bidi_base.specs.declared.char_data.BidiClass.{BidiClass}
use Rattle.bidi_text.specs.declared.text.str_text.StrText.{StrText}
use Rattle.bidi_text.specs.declared.text.utf16_text.Utf16Text.{Utf16Text}
use Rattle.bidi_lines.specs.Analysed as of
use Rattle.unicode_bidi.specs.declared.info.BidiInfo.{BidiInfo}
use Rattle.bidi_paragraphs.specs.declared.paragraph_info.ParagraphInfo.{ParagraphInfo}

-- `i.text()`, of UTF-8
abbrev pub text : {C I L : Type 0} {t : _} {c : _} {i : _} {l : _} → BidiInfo StrText C I L t c i l → List ℕ
text i = i.analysed.text.text.now

-- `i.text()`, of UTF-16
abbrev pub units : {C I L : Type 0} {t : _} {c : _} {i : _} {l : _} → BidiInfo Utf16Text C I L t c i l → List ℕ
units i = i.analysed.text.units.now

module _ {T C I L : Type 0} {t : _} {c : _} {i : _} {l : _} (info : BidiInfo T C I L t c i l) where
  -- `i.text_source()`
  abbrev pub text_source : T
  text_source = info.analysed.text

  -- the text, as its characters, with `i.original_classes()` and `i.levels()`
  abbrev pub analysed : AnalysedText
  analysed = of.analysed info.analysed

  -- `i.original_classes()`, `i.levels()` and `i.paragraphs()`
  abbrev pub original_classes : List BidiClass
  original_classes = analysed.classes

  abbrev pub levels : List ℕ
  levels = analysed.levels

  abbrev pub paragraphs : List ParagraphInfo
  paragraphs = info.paragraphs.items
