-- The text that a command writes.
use Rattle.std.specs.Prelude.{◌≡◌, ℕ, ◌+◌, ◌-◌, if◌then◌else◌, List, [], ◌∷◌, ◌++◌, length, take, map, flat_map, codes, decimal, Option, encode_utf8, encode_utf8_all}
use Rattle.std.specs.Char.{len_utf8}
use Rattle.std.specs.Io.KnownBytes.{Appends, Consumes, IsAtEnd}
use Rattle.std.specs.List.{join_with_byte}
use Rattle.std.specs.Str.{byte, chars, IsUtf8}
use Rattle.bidi_base.specs.declared.char_data.BidiClass.{BidiClass}
use Rattle.bidi_base.specs.declared.sample.TheConstants.{RANGES, BRACKETS}
use Rattle.bidi_base.specs.Display.{Run, line_text}
use Rattle.bidi_base.specs.Isolates.{paragraph_level, stored_classes}
use Rattle.bidi_base.specs.Layout.{line_ranges}
use Rattle.bidi_base.specs.Order.{visual_order}
use Rattle.bidi_base.specs.Paragraphs.{paragraphs_of, each_separator, ends_with_separator}
use Rattle.bidi_base.specs.Source.{Source, table_source}
use Rattle.bidi_base.specs.Stored.{stored_levels}
use Rattle.bidi_base.specs.Text.{text_len}
use Rattle.bidi_terminal.specs.Bases.{level_of_base}
use Rattle.bidi_show_run.specs.declared.command.Command.{Command}
use Rattle.bidi_show_run.specs.declared.command.Command.TheVariants.{Map, Show}
use Rattle.bidi_show_run.specs.declared.command.View.{View}
use Rattle.bidi_show_run.specs.declared.command.View.TheVariants.{Whole, Lines}

-- a line of numbers in decimal, separated by one space
abbrev pub line_of : List ℕ → List ℕ
line_of numbers = join_with_byte (byte " ") (map decimal numbers) ++ codes "\n"

-- ---- what `show` prints of a paragraph

-- its range, in bytes of the text, and its level
abbrev pub heading : ℕ → ℕ → ℕ → List ℕ
heading start end level =
    codes "paragraph "
    ++ (decimal start ++ (codes ".." ++ (decimal end ++ (codes " level " ++ (decimal level ++ codes "\n")))))

-- a space and a number
abbrev pub spaced : ℕ → List ℕ
spaced number = codes " " ++ decimal number

-- the stored level of each of its characters
abbrev pub levels_line : List ℕ → List ℕ
levels_line levels = codes "levels" ++ (flat_map spaced levels ++ codes "\n")

-- a line of it from left to right
abbrev pub text_line : List ℕ → List ℕ
text_line shown = codes "text " ++ (shown ++ codes "\n")

-- its characters without the separator that ends it
abbrev pub without_separator : Source → List ℕ → List ℕ
without_separator source piece = if ends_with_separator source piece then take (length piece - 1) piece else piece

-- these three lines for a paragraph that begins at the byte `start`, given the stored classes and levels
abbrev pub paragraph_lines : Source → ℕ → List ℕ → ℕ → List BidiClass → List ℕ → List ℕ
paragraph_lines source start piece level classes levels =
    heading start (start + text_len len_utf8 piece) level
    ++ (levels_line levels
    ++ text_line (line_text len_utf8 encode_utf8 piece (encode_utf8_all piece) level classes levels 0
    (text_len len_utf8 (without_separator source piece))))

-- ---- what `lines` prints of a paragraph

-- a line of it from left to right
abbrev pub shown_line : List ℕ → List ℕ
shown_line shown = shown ++ codes "\n"

-- every character is one column wide
abbrev pub one_column : ℕ → ℕ
one_column c = 1

-- the lines, or an empty one at `start` if there is none
abbrev pub one_at_least : ℕ → List Run → List Run
one_at_least start [] = (start, start) ∷ []
one_at_least start (line ∷ lines) = line ∷ lines

-- its lines of at most `limit` columns, without the separator that ends it, given the stored classes and levels
abbrev pub layout_lines : Source → ℕ → List ℕ → ℕ → List BidiClass → List ℕ → List ℕ
layout_lines source limit piece level classes levels =
    flat_map (λ r. shown_line (line_text len_utf8 encode_utf8 piece (encode_utf8_all piece) level classes levels r.0 r.1))
    (one_at_least 0 (line_ranges len_utf8 piece one_column limit 0 (text_len len_utf8 (without_separator source piece))))

-- ---- what is printed of a text

-- what is printed of a paragraph that begins at the byte `start`
abbrev pub paragraph_text : View → Source → ℕ → List ℕ → ℕ → List BidiClass → List ℕ → List ℕ
paragraph_text Whole source start piece level classes levels = paragraph_lines source start piece level classes levels
paragraph_text (Lines limit) source start piece level classes levels = layout_lines source limit piece level classes levels

-- the same for each paragraph of a text, the first of which begins at the byte `start`
abbrev pub lines_from : View → Source → Option ℕ → ℕ → List (List ℕ) → List ℕ
lines_from view source base_level start [] = []
lines_from view source base_level start (piece ∷ pieces) =
    let classes = map source.class_of piece in
    paragraph_text view source start piece (paragraph_level base_level classes) (stored_classes classes) (stored_levels source base_level piece)
    ++ lines_from view source base_level (start + text_len len_utf8 piece) pieces

-- what `show` and `lines` print of a text of UTF-8
unfoldable pub shown_text : View → Source → Option ℕ → List ℕ → List ℕ
shown_text view source base_level text = lines_from view source base_level 0 (paragraphs_of (each_separator source) (chars text))

-- ---- what the commands print

-- the sample table
unfoldable pub sample_source : Source
sample_source = table_source RANGES BRACKETS

-- these bytes were read, and no more were left
pub record ReadsAll (old new : Option (List ℕ)) (bytes : List ℕ) : Type 0 where
  pub consumed : Consumes old new bytes
  pub to_end : IsAtEnd new

-- the text is what the command writes, if its input had `old` and then `new` left: for `map` the visual order of the
-- levels, for `show` and `lines` what the bytes that were read show
abbrev pub IsAnswer : Command → Option (List ℕ) → Option (List ℕ) → List ℕ → Type 0
IsAnswer (Map levels) old new text = text ≡ line_of (visual_order levels)
IsAnswer (Show base view) old new text =
    (bytes : List ℕ) × ReadsAll old new bytes × IsUtf8 bytes
    × (text ≡ shown_text view sample_source (level_of_base base) bytes)

-- the output has grown from `before` to `after` by the text of the command
abbrev pub WritesAnswer : Command → Option (List ℕ) → Option (List ℕ) → Option (List ℕ) → Option (List ℕ) → Type 0
WritesAnswer command old new before after = (text : List ℕ) × IsAnswer command old new text × Appends before after text
