-- What `show` and `lines` print of a paragraph, read in the whole text.
use Rattle.std.specs.Prelude.{ℕ, ◌+◌, List, ◌++◌, flat_map, slice_range, encode_utf8}
use Rattle.std.specs.Char.{len_utf8}
use Rattle.std.specs.Str.{chars}
use Rattle.bidi_base.specs.declared.char_data.BidiClass.{BidiClass}
use Rattle.bidi_base.specs.declared.char_data.BidiClass.TheVariants.{L}
use Rattle.bidi_base.specs.Display.{Run, line_text}
use Rattle.bidi_base.specs.Layout.{line_ranges}
use Rattle.bidi_base.specs.Source.{Source}
use Rattle.bidi_base.specs.Text.{text_len, subrange, per_char, IsLine}
use Rattle.unicode_bidi.specs.ParagraphInfo.{level_of, range_of}
use Rattle.bidi_paragraphs.specs.declared.paragraph_info.ParagraphInfo.{ParagraphInfo}
use Rattle.bidi_show_run.specs.Texts.{heading, levels_line, text_line, without_separator, shown_line, one_column, one_at_least}
use Rattle.bidi_show_run.specs.declared.command.View.{View}
use Rattle.bidi_show_run.specs.declared.command.View.TheVariants.{Whole, Lines}

-- its range is a line of a text of UTF-8: it cuts no character
abbrev pub IsParagraphIn : List ℕ → ParagraphInfo → Type 0
IsParagraphIn text p = IsLine len_utf8 (chars text) (range_of p).start (range_of p).end

-- the levels of its characters, from the bytes of the text and one level a byte
abbrev pub levels_in : List ℕ → List ℕ → ℕ → ℕ → List ℕ
levels_in text levels start end = per_char 0 len_utf8 (chars (slice_range text start end)) (slice_range levels start end)

-- where it ends in bytes, without the separator that ends it
abbrev pub own_end : Source → List ℕ → ℕ → ℕ → ℕ
own_end source cs start end = start + text_len len_utf8 (without_separator source (subrange len_utf8 cs start end))

-- a line of the text from left to right, from one class and one level a byte
abbrev pub line_in : List ℕ → ℕ → List BidiClass → List ℕ → ℕ → ℕ → List ℕ
line_in text level classes levels start end =
    let cs = chars text in
    line_text len_utf8 encode_utf8 cs text level (per_char L len_utf8 cs classes) (per_char 0 len_utf8 cs levels) start end

-- its text from left to right
abbrev pub text_in : Source → List ℕ → ℕ → List BidiClass → List ℕ → ℕ → ℕ → List ℕ
text_in source text level classes levels start end = line_in text level classes levels start (own_end source (chars text) start end)

-- the ranges of its lines
abbrev pub layout_in : Source → ℕ → List ℕ → ℕ → ℕ → List Run
layout_in source limit cs start end =
    one_at_least start (line_ranges len_utf8 cs one_column limit start (own_end source cs start end))

-- these lines from left to right
abbrev pub layout_text : List ℕ → ℕ → List BidiClass → List ℕ → List Run → List ℕ
layout_text text level classes levels lines = flat_map (λ r. shown_line (line_in text level classes levels r.0 r.1)) lines

-- what is printed of it, given its range and its level
abbrev pub printed_at : View → Source → List ℕ → ℕ → ℕ → ℕ → List BidiClass → List ℕ → List ℕ
printed_at Whole source text start end level classes levels =
    heading start end level
    ++ (levels_line (levels_in text levels start end)
    ++ text_line (text_in source text level classes levels start end))
printed_at (Lines limit) source text start end level classes levels =
    layout_text text level classes levels (layout_in source limit (chars text) start end)

abbrev pub printed_in : View → Source → List ℕ → List BidiClass → List ℕ → ParagraphInfo → List ℕ
printed_in view source text classes levels p =
    printed_at view source text (range_of p).start (range_of p).end (level_of p) classes levels
