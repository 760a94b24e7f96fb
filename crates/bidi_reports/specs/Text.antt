-- The report as lines of text.
use Rattle.std.specs.Prelude.{ℕ, ◌-◌, ◌==◌, ◌&&◌, Bool, not, if◌then◌else◌, List, [], ◌++◌, length, take, get_or, codes, encode_utf8}
use Rattle.bidi_controls.specs.Findings.{place_text}
use Rattle.bidi_controls.specs.declared.finding.Finding.{Finding}
use Rattle.bidi_reports.specs.Parts.{bold, bold_red, styled, marked_part, blank_part}
use Rattle.bidi_reports.specs.declared.form.Notes.{Notes}
use Rattle.bidi_reports.specs.declared.form.Notes.TheVariants.{Overridden, Escaped}
use Rattle.bidi_reports.specs.declared.parts.Escapes.TheVariants.{Hidden, HiddenAndRightToLeft}
use Rattle.bidi_reports.specs.Words.{is_about_line, message_of}

-- a line without the line feed, the carriage return or both that end it
abbrev pub ends_with_char : ℕ → List ℕ → Bool
ends_with_char c line = not (length line == 0) && get_or line (length line - 1) 0 == c

abbrev pub without_last : ℕ → List ℕ → List ℕ
without_last c line = if ends_with_char c line then take (length line - 1) line else line

abbrev pub without_end : List ℕ → List ℕ
without_end line = without_last 13 (without_last 10 line)

-- the line for a finding: its position, and what is found
unfoldable pub finding_text : Bool → List ℕ → Finding → List ℕ
finding_text colors name finding =
    styled colors bold (place_text name finding)
    ++ (message_of finding ++ codes "\n")

-- the line of the file, and below it a caret under the character at an index
unfoldable pub excerpt_text : Bool → List ℕ → ℕ → List ℕ
excerpt_text colors line place =
    codes "  " ++ (marked_part Hidden colors line place ++ (codes "\n  " ++ (blank_part line place ++ (styled colors bold_red (codes "^") ++ codes "\n"))))

-- what is displayed of a line: the index around which a long one is shown, and its characters
abbrev pub DisplayedChars : Type 0
DisplayedChars = ℕ × List ℕ

-- the line that shows how a line is displayed
unfoldable pub note_start : List ℕ
note_start = codes "note: displayed as: "

-- a displayed line, or the part around an index, so that no screen reorders it once more: between LRO and PDF, or without
-- any right-to-left character. In both, a control is written by its code point, so the PDF closes the LRO
unfoldable pub displayed_part : Notes → Bool → DisplayedChars → List ℕ
displayed_part Overridden colors displayed =
    encode_utf8 0x202D ++ (marked_part Hidden colors displayed.1 displayed.0 ++ encode_utf8 0x202C)
displayed_part Escaped colors displayed = marked_part HiddenAndRightToLeft colors displayed.1 displayed.0

unfoldable pub note_text : Notes → Bool → List ℕ → DisplayedChars → Finding → List ℕ
note_text notes colors name displayed finding =
    styled colors bold (place_text name finding)
    ++ (note_start ++ (displayed_part notes colors displayed ++ codes "\n"))

-- the excerpt, if excerpts are shown, and the note of a finding that is about the line
unfoldable pub excerpt_report : Bool → Bool → List ℕ → ℕ → List ℕ
excerpt_report excerpts colors line place = if excerpts then excerpt_text colors (without_end line) place else []

unfoldable pub note_report : Notes → Bool → List ℕ → DisplayedChars → Finding → List ℕ
note_report notes colors name displayed finding =
    if is_about_line finding.trouble then note_text notes colors name displayed finding else []

-- all of it
unfoldable pub text_report : Bool → Bool → Notes → List ℕ → List ℕ → DisplayedChars → Finding → List ℕ
text_report excerpts colors notes name line displayed finding =
    finding_text colors name finding
    ++ (excerpt_report excerpts colors line (finding.column - 1) ++ note_report notes colors name displayed finding)
