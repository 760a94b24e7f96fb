-- What `check` finds in a text, and how it is reported.
use Rattle.std.specs.Prelude.{ℕ, ◌+◌, Bool, true, false, is_some, if◌then◌else◌, List, [], ◌∷◌, ◌++◌, get_or, length, map, filter, flat_map, position, codes, decimal, unwrap_or, Option, Some, None, option_map}
use Rattle.std.specs.Option.{option_to_list}
use Rattle.bidi_base.specs.declared.char_data.BidiClass.{BidiClass}
use Rattle.bidi_base.specs.Classes.{is_opener}
use Rattle.bidi_base.specs.Indexes.{indexes, class_at}
use Rattle.bidi_base.specs.Source.{Source}
use Rattle.bidi_controls.specs.Controls.{control_of, is_control_or_mark}
use Rattle.bidi_controls.specs.declared.control.Control.{Control}
use Rattle.bidi_controls.specs.Displayed.{is_displayed_differently, is_moved_by_letters, is_right_to_left, differing_level, moving_level}
use Rattle.bidi_controls.specs.FileLines.{file_lines_of}
use Rattle.bidi_base.specs.Paragraphs.{paragraphs_in, own_chars}
use Rattle.bidi_controls.specs.Matches.{is_unmatched}
use Rattle.bidi_controls.specs.declared.differing.Differing.{Differing}
use Rattle.bidi_controls.specs.declared.finding.Finding.{Finding}
use Rattle.bidi_controls.specs.declared.finding.Trouble.{Trouble}
use Rattle.bidi_controls.specs.declared.finding.Trouble.TheVariants.{NotClosed, ClosesNothing, Present, DisplayedDifferently, LettersAlone}
use Rattle.bidi_controls.specs.declared.finding.Wanted.{Wanted}

-- ---- which findings are wanted

-- findings of this kind are wanted
abbrev pub wants : Wanted → Trouble → Bool
wants wanted NotClosed = wanted.not_closed
wants wanted ClosesNothing = wanted.closes_nothing
wants wanted Present = wanted.present
wants wanted DisplayedDifferently = wanted.displayed_differently
wants wanted LettersAlone = wanted.letters_alone

-- a finding is of a kind that is wanted
abbrev pub is_wanted : Wanted → Finding → Bool
is_wanted wanted finding = wants wanted finding.trouble

-- the kinds that are wanted, with this kind among them or not
abbrev pub with_kind : Wanted → Trouble → Bool → Wanted
with_kind wanted NotClosed flag = record wanted { not_closed = flag }
with_kind wanted ClosesNothing flag = record wanted { closes_nothing = flag }
with_kind wanted Present flag = record wanted { present = flag }
with_kind wanted DisplayedDifferently flag = record wanted { displayed_differently = flag }
with_kind wanted LettersAlone flag = record wanted { letters_alone = flag }

-- no findings
abbrev pub nothing : Wanted
nothing = record { not_closed = false; closes_nothing = false; present = false; displayed_differently = false; letters_alone = false }

-- controls without a match
abbrev pub unmatched : Wanted
unmatched = record nothing { not_closed = true; closes_nothing = true }

-- controls without a match, and lines that are displayed differently from how they read
abbrev pub misleading : Wanted
misleading = record unmatched { displayed_differently = true }

-- every control and mark
abbrev pub every_control : Wanted
every_control = record unmatched { present = true }

-- every control and mark, and lines that are displayed differently from how they read
abbrev pub everything : Wanted
everything = record every_control { displayed_differently = true }

-- controls without a match, or with `any` every control and mark, and no lines
abbrev pub controls_wanted : Bool → Wanted
controls_wanted any = if any then every_control else unmatched

-- ---- what is found

-- what is wrong with a control of this class, or `Present` if nothing is
abbrev pub trouble_of : Bool → BidiClass → Trouble
trouble_of unmatched class = if unmatched then (if is_opener class then NotClosed else ClosesNothing) else Present

-- the control or the mark that a finding of this kind names, if one is there: none if letters alone are the cause
abbrev pub control_named : Trouble → BidiClass → ℕ → Option Control
control_named LettersAlone class c = None
control_named _ class c = control_of class c

-- the finding of this kind at an index of a line
abbrev pub paragraph_finding : Trouble → ℕ → ℕ → BidiClass → ℕ → Finding
paragraph_finding trouble line place class c =
    record { line = line; column = place + 1; control = control_named trouble class c; trouble = trouble }

-- what is found at a character of a line: a control or a mark
abbrev pub finding_of : ℕ → ℕ → Bool → BidiClass → ℕ → Option Finding
finding_of line place unmatched class c =
    if is_some (control_of class c)
    then Some (record { line = line; column = place + 1; control = control_of class c; trouble = trouble_of unmatched class }) else None

-- the same for the character at an index of a paragraph that begins at the index `from` of its line
abbrev pub finding_at : ℕ → ℕ → List BidiClass → List ℕ → ℕ → Option Finding
finding_at line from classes chars k = finding_of line (from + k) (is_unmatched classes k) (class_at classes k) (get_or chars k 0)

-- what is found in the characters of a paragraph
abbrev pub character_findings : ℕ → ℕ → List BidiClass → List ℕ → List Finding
character_findings line from classes chars = flat_map (λ k. option_to_list (finding_at line from classes chars k)) (indexes chars)

-- the first index at which a character passes the test, or 0 if none does
abbrev pub first_place : (ℕ → Bool) → List ℕ → ℕ
first_place test chars = unwrap_or (position test chars) 0

-- whether a paragraph is displayed differently from how it reads, and why: by controls and marks, at the first of them, or
-- by letters alone, at the first character that is displayed from right to left
abbrev pub differing_of : Source → List ℕ → Option Differing
differing_of source chars =
    let own = own_chars source chars in
    if is_displayed_differently source own
    then Some (record {
      trouble = DisplayedDifferently;
      place = first_place (λ c. is_control_or_mark source c) chars;
      level = differing_level source own;
    })
    else if is_moved_by_letters source own
    then Some (record {
      trouble = LettersAlone;
      place = first_place (λ c. is_right_to_left (source.class_of c)) chars;
      level = moving_level source own;
    })
    else None

-- the same, if findings of its kind are wanted
abbrev pub if_wanted : Wanted → Option Differing → Option Differing
if_wanted wanted None = None
if_wanted wanted (Some differing) = if wants wanted differing.trouble then Some differing else None

abbrev pub wanted_differing : Source → Wanted → List ℕ → Option Differing
wanted_differing source wanted chars = if_wanted wanted (differing_of source chars)

-- the finding of a paragraph that is displayed differently
abbrev pub line_finding : Source → ℕ → ℕ → List ℕ → Differing → Finding
line_finding source line from chars differing =
    let c = get_or chars differing.place 0 in
    paragraph_finding differing.trouble line (from + differing.place) (source.class_of c) c

-- all that is found in a paragraph that begins at the index `from` of the line of this number: first what is found in
-- the paragraph as a whole, then what is found in its characters. A finding of letters can be behind some of these.
abbrev pub all_findings_in_paragraph : Source → ℕ → ℕ → List ℕ → List Finding
all_findings_in_paragraph source line from chars =
    option_to_list (option_map (line_finding source line from chars) (differing_of source chars))
    ++ character_findings line from (map source.class_of chars) chars

-- those of them that are wanted
abbrev pub findings_in_paragraph : Source → Wanted → ℕ → ℕ → List ℕ → List Finding
findings_in_paragraph source wanted line from chars =
    filter (is_wanted wanted) (all_findings_in_paragraph source line from chars)

-- the same for paragraphs, the first of which begins at the index `from` of the line
abbrev pub findings_in_paragraphs : Source → Wanted → ℕ → ℕ → List (List ℕ) → List Finding
findings_in_paragraphs source wanted line from [] = []
findings_in_paragraphs source wanted line from (chars ∷ paragraphs) =
    findings_in_paragraph source wanted line from chars
    ++ findings_in_paragraphs source wanted line (from + length chars) paragraphs

-- the findings in a line of a file
unfoldable pub findings_in_line : Source → Wanted → ℕ → List ℕ → List Finding
findings_in_line source wanted line chars = findings_in_paragraphs source wanted line 0 (paragraphs_in source chars)

-- the same for lines, the first of which has this number
abbrev pub findings_from : Source → Wanted → ℕ → List (List ℕ) → List Finding
findings_from source wanted line [] = []
findings_from source wanted line (chars ∷ lines) =
    findings_in_line source wanted line chars ++ findings_from source wanted (line + 1) lines

-- the findings in a text, in order
unfoldable pub findings_of : Source → Wanted → List ℕ → List Finding
findings_of source wanted chars = findings_from source wanted 1 (file_lines_of chars)

-- ---- how a finding is reported

abbrev pub trouble_text : Trouble → List ℕ
trouble_text NotClosed = codes "is not closed on its line"
trouble_text ClosesNothing = codes "closes nothing on its line"
trouble_text Present = codes "is present"
trouble_text DisplayedDifferently = codes "is on a line displayed differently from how it reads"
trouble_text LettersAlone = codes "letters alone make the line display differently from how it reads"

-- its position: the file, the line and the column
abbrev pub place_text : List ℕ → Finding → List ℕ
place_text name finding = name ++ (codes ":" ++ (decimal finding.line ++ (codes ":" ++ (decimal finding.column ++ codes ": "))))
