-- A paragraph whose classes and levels are known, and what is shown plainly of its lines.
use Rattle.std.specs.Prelude.{ℕ, List, [], ◌∷◌, ◌++◌, None, codes}
use Rattle.std.specs.Char.{len_utf8}
use Rattle.std.specs.Str.{chars}
use Rattle.std.specs.declared.ops.Range.{Range}
use Rattle.bidi_base.specs.AnalysedText.{AnalysedText, IsAnalysis, line_levels_per_char}
use Rattle.bidi_base.specs.Display.{Run}
use Rattle.bidi_base.specs.Source.{Source}
use Rattle.bidi_base.specs.Text.{subrange, text_len}
use Rattle.bidi_base.specs.declared.char_data.BidiClass.{BidiClass}
use Rattle.bidi_terminal.specs.Bases.{level_of_base}
use Rattle.bidi_terminal.specs.declared.base.Base.{Base}
use Rattle.bidi_shown.specs.Plain.{tabbed_line}
use Rattle.bidi_shown.specs.declared.analysed.AnalysedParagraph.{AnalysedParagraph}
use Rattle.unicode_bidi.specs.declared.engine.ParagraphAnalysis.{ParagraphAnalysis}

-- the characters of a text of UTF-8, with the class and the level of each byte
abbrev pub analysed : List ℕ → List BidiClass → List ℕ → AnalysedText
analysed chars classes levels = record { len_of = len_utf8; chars = chars; classes = classes; levels = levels }

-- the same, by the analysis of the text
abbrev pub analysed_in : ParagraphAnalysis → List ℕ → AnalysedText
analysed_in analysis chars = analysed chars analysis.classes.items analysis.levels.items

-- those of a paragraph with its analysis
abbrev pub text_of : AnalysedParagraph → AnalysedText
text_of paragraph = analysed_in paragraph.analysis.now (chars paragraph.text.now)

-- the analysis of a paragraph is that of the rules, with this base level
abbrev pub IsAnalysed : Source → Base → AnalysedParagraph → Type 0
IsAnalysed source base paragraph =
    IsAnalysis source (level_of_base base) None (text_of paragraph)
    ((0, text_len len_utf8 (chars paragraph.text.now)) ∷ []) (paragraph.analysis.now.level ∷ [])

-- a line of an analysed text as it is shown, from the level of its paragraph and its range of bytes
abbrev pub shown_in : AnalysedText → ℕ → Run → List ℕ
shown_in a level run =
    let line : Range ℕ = record { start = run.0; end = run.1 } in
    tabbed_line (subrange a.len_of a.chars run.0 run.1) (line_levels_per_char a level line) ++ codes "\n"
