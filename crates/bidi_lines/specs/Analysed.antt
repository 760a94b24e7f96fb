-- A text with its stored classes and levels.
use Rattle.std.specs.Prelude.{ℕ, List}
use Rattle.bidi_base.specs.AnalysedText.{AnalysedText}
use Rattle.bidi_base.specs.Texts.{Encoding, Text}
use Rattle.bidi_base.specs.declared.char_data.BidiClass.{BidiClass}
use Rattle.bidi_lines.specs.declared.analysed.Analysed.{Analysed}

-- a text with a class and a level for each code unit
abbrev pub with_lists : {e : Encoding} → Text e → List BidiClass → List ℕ → AnalysedText
with_lists {e = e} text classes levels = record { len_of = e.len_of; chars = text.chars; classes = classes; levels = levels }

-- `a.text()`
abbrev pub text_of : {T C I L : Type 0} {t : _} {c : _} {i : _} {l : _} → Analysed T C I L t c i l → T
text_of a = a.text

-- the text, as its characters, with `a.original_classes()` and `a.levels()`
abbrev pub analysed : {T C I L : Type 0} {t : _} {c : _} {i : _} {l : _} → Analysed T C I L t c i l → AnalysedText
analysed {t} a = with_lists (t.text a.text) a.original_classes.items a.levels.items
