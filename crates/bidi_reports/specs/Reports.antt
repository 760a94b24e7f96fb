-- What is reported of the findings of a file's line, and what is before and after all of it.
use Rattle.std.specs.Prelude.{ℕ, ◌==◌, Bool, true, false, ◌&&◌, if◌then◌else◌, List, [], ◌∷◌, ◌++◌}
use Rattle.std.specs.List.{list_any}
use Rattle.std.specs.Str.{chars}
use Rattle.bidi_controls.specs.FileSearch.{DisplayedAt}
use Rattle.bidi_controls.specs.declared.finding.Finding.{Finding}
use Rattle.bidi_terminal.specs.Names.{shown_name}
use Rattle.bidi_reports.specs.Digests.{digest_for}
use Rattle.bidi_reports.specs.Json.{json_report, sarif_report, sarif_head}
use Rattle.bidi_reports.specs.Notifications.{sarif_foot}
use Rattle.bidi_reports.specs.Text.{DisplayedChars, text_report}
use Rattle.bidi_reports.specs.Words.{is_about_line, is_displayed_differently, is_unmatched}
use Rattle.bidi_reports.specs.declared.form.Form.{Form}
use Rattle.bidi_reports.specs.declared.form.Form.TheVariants.{Quiet, Text, Json, Sarif}

-- a report in this form shows how lines are displayed
abbrev pub shows_lines : Form → Bool
shows_lines Quiet = false
shows_lines (Text excerpts colors notes) = true
shows_lines Json = true
shows_lines Sarif = true

-- the paragraph that has its finding at a column, as it is displayed
abbrev pub displayed_at : ℕ → List DisplayedAt → DisplayedChars
displayed_at column [] = (0, [])
displayed_at column (paragraph ∷ displayed) =
    if paragraph.0 == column then (paragraph.2, paragraph.3) else displayed_at column displayed

-- what is displayed, if a finding is about that, or nothing
abbrev pub displayed_for : List DisplayedAt → Finding → DisplayedChars
displayed_for displayed finding = if is_about_line finding.trouble then displayed_at finding.column displayed else (0, [])

-- a finding in a file of this name, in this form; `later` says whether findings were written before, and `digest` is that
-- of the line
abbrev pub finding_report : Form → Bool → List ℕ → List ℕ → List ℕ → DisplayedChars → Finding → List ℕ
finding_report Quiet later name line digest displayed finding = []
finding_report (Text excerpts colors notes) later name line digest displayed finding =
    text_report excerpts colors notes (shown_name (chars name)) line displayed finding
finding_report Json later name line digest displayed finding = json_report name displayed.1 finding
finding_report Sarif later name line digest displayed finding = sarif_report later name digest displayed finding

-- one of these findings says that the line is displayed differently from how it reads
abbrev pub differs : List Finding → Bool
differs findings = list_any (λ finding. is_displayed_differently finding.trouble) findings

-- SARIF has one result for each cause: a control without a match is left out if its line is displayed differently
abbrev pub is_left_out : Form → Bool → Finding → Bool
is_left_out Quiet different finding = false
is_left_out (Text excerpts colors notes) different finding = false
is_left_out Json different finding = false
is_left_out Sarif different finding = different && is_unmatched finding.trouble

-- findings in a line of that file, in order, with what is displayed of the line
unfoldable pub findings_report : Form → Bool → Bool → List ℕ → List ℕ → List DisplayedAt → List Finding → List ℕ
findings_report form different later name line displayed [] = []
findings_report form different later name line displayed (finding ∷ findings) =
    if is_left_out form different finding then findings_report form different later name line displayed findings
    else finding_report form later name line (digest_for form line) (displayed_for displayed finding) finding
    ++ findings_report form different true name line displayed findings

-- all findings in that line
abbrev pub line_report : Form → Bool → List ℕ → List ℕ → List DisplayedAt → List Finding → List ℕ
line_report form later name line displayed findings =
    findings_report form (differs findings) later name line displayed findings

-- what is before all findings
abbrev pub report_head : Form → List ℕ
report_head Quiet = []
report_head (Text excerpts colors notes) = []
report_head Json = []
report_head Sarif = sarif_head

-- what is after all of them; `notifications` says what could not be searched
abbrev pub report_foot : Form → List ℕ → List ℕ
report_foot Quiet notifications = []
report_foot (Text excerpts colors notes) notifications = []
report_foot Json notifications = []
report_foot Sarif notifications = sarif_foot notifications
