-- What reports call a finding and its control.
use Rattle.std.specs.Prelude.{ℕ, Bool, true, false, List, [], ◌++◌, Option, None, Some, codes}
use Rattle.bidi_controls.specs.Controls.{control_name}
use Rattle.bidi_controls.specs.Findings.{trouble_text}
use Rattle.bidi_controls.specs.declared.control.Control.{Control}
use Rattle.bidi_controls.specs.declared.control.Control.TheVariants.{LeftToRightEmbedding, RightToLeftEmbedding, PopDirectionalFormatting, LeftToRightOverride, RightToLeftOverride, LeftToRightIsolate, RightToLeftIsolate, FirstStrongIsolate, PopDirectionalIsolate, LeftToRightMark, RightToLeftMark, ArabicLetterMark}
use Rattle.bidi_controls.specs.declared.finding.Finding.{Finding}
use Rattle.bidi_controls.specs.declared.finding.Trouble.{Trouble}
use Rattle.bidi_controls.specs.declared.finding.Trouble.TheVariants.{NotClosed, ClosesNothing, Present, DisplayedDifferently, LettersAlone}

-- the code point of a control
abbrev pub code_of : Control → List ℕ
code_of LeftToRightEmbedding = codes "U+202A"
code_of RightToLeftEmbedding = codes "U+202B"
code_of PopDirectionalFormatting = codes "U+202C"
code_of LeftToRightOverride = codes "U+202D"
code_of RightToLeftOverride = codes "U+202E"
code_of LeftToRightIsolate = codes "U+2066"
code_of RightToLeftIsolate = codes "U+2067"
code_of FirstStrongIsolate = codes "U+2068"
code_of PopDirectionalIsolate = codes "U+2069"
code_of LeftToRightMark = codes "U+200E"
code_of RightToLeftMark = codes "U+200F"
code_of ArabicLetterMark = codes "U+061C"

-- its name in Unicode
abbrev pub character_of : Control → List ℕ
character_of LeftToRightEmbedding = codes "LEFT-TO-RIGHT EMBEDDING"
character_of RightToLeftEmbedding = codes "RIGHT-TO-LEFT EMBEDDING"
character_of PopDirectionalFormatting = codes "POP DIRECTIONAL FORMATTING"
character_of LeftToRightOverride = codes "LEFT-TO-RIGHT OVERRIDE"
character_of RightToLeftOverride = codes "RIGHT-TO-LEFT OVERRIDE"
character_of LeftToRightIsolate = codes "LEFT-TO-RIGHT ISOLATE"
character_of RightToLeftIsolate = codes "RIGHT-TO-LEFT ISOLATE"
character_of FirstStrongIsolate = codes "FIRST STRONG ISOLATE"
character_of PopDirectionalIsolate = codes "POP DIRECTIONAL ISOLATE"
character_of LeftToRightMark = codes "LEFT-TO-RIGHT MARK"
character_of RightToLeftMark = codes "RIGHT-TO-LEFT MARK"
character_of ArabicLetterMark = codes "ARABIC LETTER MARK"

-- the kind of a finding
abbrev pub kind_of : Trouble → List ℕ
kind_of NotClosed = codes "not-closed"
kind_of ClosesNothing = codes "closes-nothing"
kind_of Present = codes "present"
kind_of DisplayedDifferently = codes "displayed-differently"
kind_of LettersAlone = codes "letters-alone"

-- its level in SARIF
abbrev pub level_of : Trouble → List ℕ
level_of NotClosed = codes "warning"
level_of ClosesNothing = codes "warning"
level_of Present = codes "note"
level_of DisplayedDifferently = codes "error"
level_of LettersAlone = codes "warning"

-- the finding is about how its line is displayed
abbrev pub is_about_line : Trouble → Bool
is_about_line NotClosed = false
is_about_line ClosesNothing = false
is_about_line Present = false
is_about_line DisplayedDifferently = true
is_about_line LettersAlone = true

-- the name of a control, and a space, if there is a control
abbrev pub control_words : Option Control → List ℕ
control_words None = []
control_words (Some control) = control_name control ++ codes " "

-- the line is displayed differently from how it reads
abbrev pub is_displayed_differently : Trouble → Bool
is_displayed_differently NotClosed = false
is_displayed_differently ClosesNothing = false
is_displayed_differently Present = false
is_displayed_differently DisplayedDifferently = true
is_displayed_differently LettersAlone = false

-- no control on the line matches this one
abbrev pub is_unmatched : Trouble → Bool
is_unmatched NotClosed = true
is_unmatched ClosesNothing = true
is_unmatched Present = false
is_unmatched DisplayedDifferently = false
is_unmatched LettersAlone = false

-- what a code host shows of a kind of finding beside the finding: what to do, and a page that says more
unfoldable pub help_of : Trouble → List ℕ
help_of NotClosed =
    codes "Nothing on this line closes the control, so it also moves what follows it. Close an isolate by U+2069, and an embedding or an override by U+202C, or remove the control."
help_of ClosesNothing = codes "Nothing on this line is open that this control closes. Remove it, or open on this line what it should close."
help_of Present = codes "bidi check --any and --gate report each direction control and mark. Remove it, or allow it with --allow."
help_of DisplayedDifferently =
    codes "A reader of this line sees its ASCII in another order, or mirrored, than a compiler reads it. Remove the controls, or close each directly after the text that it is for."
help_of LettersAlone =
    codes "Letters from right to left move ASCII on this line, or mirror it, and no control does. A reader sees its parts in another order than a compiler reads them. Put them on lines of their own, or name them in ASCII."

unfoldable pub help_uri_of : Trouble → List ℕ
help_uri_of NotClosed = codes "https://www.unicode.org/reports/tr9/"
help_uri_of ClosesNothing = codes "https://www.unicode.org/reports/tr9/"
help_uri_of Present = codes "https://www.unicode.org/reports/tr55/"
help_uri_of DisplayedDifferently = codes "https://www.unicode.org/reports/tr55/"
help_uri_of LettersAlone = codes "https://www.unicode.org/reports/tr55/"

-- what is found, in words
abbrev pub message_of : Finding → List ℕ
message_of finding = control_words finding.control ++ trouble_text finding.trouble
