-- What the accessors of `InitialInfo` return.
use Rattle.std.specs.Prelude.{ℕ, List}
use Rattle.bidi_base.specs.declared.char_data.BidiClass.{BidiClass}
use Rattle.bidi_text.specs.declared.text.str_text.StrText.{StrText}
use Rattle.bidi_text.specs.declared.text.utf16_text.Utf16Text.{Utf16Text}
use Rattle.unicode_bidi.specs.declared.initial_info.InitialInfo.{InitialInfo}
use Rattle.bidi_paragraphs.specs.declared.paragraph_info.ParagraphInfo.{ParagraphInfo}

-- `i.text()`, of UTF-8
abbrev pub text : {C I L : Type 0} {t : _} {c : _} {i : _} {l : _} → InitialInfo StrText C I L t c i l → List ℕ
text i = i.text.text.now

-- `i.text()`, of UTF-16
abbrev pub units : {C I L : Type 0} {t : _} {c : _} {i : _} {l : _} → InitialInfo Utf16Text C I L t c i l → List ℕ
units i = i.text.units.now

module _ {T C I L : Type 0} {t : _} {c : _} {i : _} {l : _} (info : InitialInfo T C I L t c i l) where
  -- the lengths of the text's characters, and the characters
  abbrev pub len_of : ℕ → ℕ
  len_of = t.encoding.len_of

  abbrev pub chars_of : List ℕ
  chars_of = (t.text info.text).chars

  -- `i.original_classes()` and `i.paragraphs()`
  abbrev pub original_classes : List BidiClass
  original_classes = info.original_classes.items

  abbrev pub paragraphs : List ParagraphInfo
  paragraphs = info.paragraphs.items
