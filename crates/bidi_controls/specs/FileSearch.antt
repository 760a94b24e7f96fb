-- What is found in the lines of a file.
use Rattle.std.specs.Prelude.{◌≡◌, ℕ, ◌+◌, ◌-◌, ◌<◌, ◌^◌, Bool, false, not, ◌&&◌, ◌||◌, if◌then◌else◌, List, [], ◌∷◌, ◌++◌, length, take, map, slice_index, Option, Some, option_map}
use Rattle.std.specs.Char.{is_ascii}
use Rattle.std.specs.List.{list_all}
use Rattle.std.specs.Option.{option_to_list}
use Rattle.bidi_base.specs.Paragraphs.{own_chars, paragraphs_in}
use Rattle.bidi_base.specs.Source.{Source}
use Rattle.bidi_unicode.specs.Unicode.{unicode_source}
use Rattle.bidi_controls.specs.ControlBytes.{holds_control}
use Rattle.bidi_controls.specs.Displayed.{as_shown, first_moved, visible_ascii, without_controls}
use Rattle.bidi_controls.specs.Findings.{findings_in_line, wanted_differing}
use Rattle.bidi_controls.specs.declared.check.Sought.{Sought}
use Rattle.bidi_controls.specs.declared.differing.Differing.{Differing}
use Rattle.bidi_controls.specs.declared.differing.DisplayedParagraph.{DisplayedParagraph}
use Rattle.bidi_controls.specs.declared.finding.Finding.{Finding}
use Rattle.bidi_controls.specs.declared.finding.Wanted.{Wanted}
use Rattle.bidi_controls.specs.Decoded.{utf8_decoded, fault_from}
use Rattle.bidi_controls.specs.FileLines.{is_break, file_lines_of}
use Rattle.bidi_controls.specs.declared.file_search.FoundLine.{FoundLine}
use Rattle.bidi_controls.specs.declared.file_search.FileSearch.{FileSearch}

-- ---- what is kept of a line

-- a paragraph as it is displayed: the column of its finding, the base level with which it is displayed, the index of the
-- first visible ASCII character that is not read at its place, and its characters as a device shows them, without direction
-- controls
abbrev pub DisplayedAt : Type 0
DisplayedAt = ℕ × ℕ × ℕ × List ℕ

-- those of a `DisplayedParagraph`
abbrev pub displayed_of : DisplayedParagraph → DisplayedAt
displayed_of paragraph = (paragraph.column, paragraph.level, paragraph.moved, paragraph.chars.items)

-- a paragraph that begins at the index `from` of its line, as it is displayed if it differs like this
abbrev pub displayed_as : Source → ℕ → List ℕ → Differing → DisplayedAt
displayed_as source from chars differing =
    let line = own_chars source chars in
    let shown = without_controls source (as_shown source (Some differing.level) line) in
    (from + differing.place + 1, differing.level, first_moved shown (visible_ascii line), shown)

-- the same, if it has a finding as a whole, and if that is kept
abbrev pub displayed_in_paragraph : Source → Sought → ℕ → List ℕ → List DisplayedAt
displayed_in_paragraph source sought from chars =
    if sought.displays
    then option_to_list (option_map (displayed_as source from chars) (wanted_differing source sought.wanted chars)) else []

-- the same for paragraphs, the first of which begins at the index `from` of the line
abbrev pub displayed_in_paragraphs : Source → Sought → ℕ → List (List ℕ) → List DisplayedAt
displayed_in_paragraphs source sought from [] = []
displayed_in_paragraphs source sought from (chars ∷ paragraphs) =
    displayed_in_paragraph source sought from chars ++ displayed_in_paragraphs source sought (from + length chars) paragraphs

-- the same for a line of a file
unfoldable pub displayed_in_line : Source → Sought → List ℕ → List DisplayedAt
displayed_in_line source sought chars = displayed_in_paragraphs source sought 0 (paragraphs_in source chars)

-- ---- what is found

-- the number of a line, its characters, what is found in it, and its paragraphs that have a finding as a whole, as they
-- are displayed
abbrev pub FoundAt : Type 0
FoundAt = ℕ × List ℕ × List Finding × List DisplayedAt

-- those of a `FoundLine`
abbrev pub line_of : FoundLine → FoundAt
line_of line = (line.number, line.chars.items, line.findings.items, map displayed_of line.displayed.items)

-- those of a line, if something is found in it
abbrev pub with_findings : ℕ → List ℕ → List Finding → List DisplayedAt → List FoundAt
with_findings number chars [] displayed = []
with_findings number chars (finding ∷ findings) displayed = (number, chars, finding ∷ findings, displayed) ∷ []

abbrev pub found_in : Source → Sought → ℕ → List ℕ → List FoundAt
found_in source sought number chars =
    with_findings number chars (findings_in_line source sought.wanted number chars) (displayed_in_line source sought chars)

-- those of lines, the first of which has this number
abbrev pub found_from : Source → Sought → ℕ → List (List ℕ) → List FoundAt
found_from source sought number [] = []
found_from source sought number (chars ∷ lines) =
    found_in source sought number chars ++ found_from source sought (number + 1) lines

-- what is found in bytes that follow those that are searched
abbrev pub still_found : FileSearch → List ℕ → List FoundAt
still_found search bytes =
    found_from unicode_source search.sought (search.lines + 1) (file_lines_of (utf8_decoded bytes))

-- bytes in which something may be found: they hold a control or a mark, or a byte that is not ASCII if letters are wanted
abbrev pub may_hold : Wanted → List ℕ → Bool
may_hold wanted bytes = holds_control bytes || (wanted.letters_alone && not (list_all is_ascii bytes))

-- the search appends what it finds in these bytes to a list of lines
abbrev pub Finds : FileSearch → List ℕ → List FoundLine → List FoundLine → Type 0
Finds search bytes old new = map line_of new ≡ map line_of old ++ still_found search bytes

-- the search adds the number of lines of these bytes to its count
abbrev pub CountsLines : FileSearch → List ℕ → FileSearch → Type 0
CountsLines old bytes new = new.lines ≡ old.lines + length (file_lines_of (utf8_decoded bytes))

-- the index at which the bytes searched so far, followed by these, stop being UTF-8
abbrev pub still_invalid : FileSearch → List ℕ → Option ℕ
still_invalid search bytes = fault_from search.invalid search.offset bytes

-- lines and bytes can be counted over this many bytes more
abbrev pub HasRoom : FileSearch → ℕ → Type 0
HasRoom search len = (search.lines + len < 2 ^ 64) × (search.offset + len < 2 ^ 64)

-- none of these bytes but the last is a line break. A carriage return there may be the first byte of a CR LF.
abbrev pub HasNoWholeLine : List ℕ → Type 0
HasNoWholeLine bytes = (k : ℕ) → k + 1 < length bytes → is_break (slice_index bytes k) ≡ false

-- the bytes that were deleted from the front of `old`, if `new` is left
abbrev pub deleted : List ℕ → List ℕ → List ℕ
deleted old new = take (length old - length new) old
