-- What is reported of the lines of a file.
use Rattle.std.specs.Prelude.{ℕ, Bool, false, not, ◌==◌, ◌||◌, List, [], ◌∷◌, ◌++◌, length}
use Rattle.bidi_controls.specs.FileSearch.{FoundAt}
use Rattle.bidi_reports.specs.Allowances.{left_entry, line_queries, reported_findings}
use Rattle.bidi_reports.specs.Entries.{Entry, Query}
use Rattle.bidi_controls.specs.declared.finding.Finding.{Finding}
use Rattle.bidi_controls.specs.declared.check.Sought.{Sought}
use Rattle.bidi_controls.specs.declared.finding.Wanted.{Wanted}
use Rattle.bidi_reports.specs.Reports.{line_report, shows_lines}
use Rattle.bidi_reports.specs.declared.form.Form.{Form}

-- what is searched for and kept, if these findings are wanted and reported in this form
abbrev pub sought_for : Wanted → Form → Sought
sought_for wanted form = record { wanted = wanted; displays = shows_lines form }

-- the findings in a line of a file of this name, as an allow-list is asked about them
abbrev pub queries_of : List ℕ → FoundAt → List Query
queries_of name line = line_queries name line.0 line.1 line.2

-- those that are reported: none if entries of an allow-list are written for them
abbrev pub reported_of : List Entry → Bool → List ℕ → FoundAt → List Finding
reported_of entries writes name line = reported_findings entries writes name line.0 line.1 line.2

-- the entry of an allow-list for those that are left
abbrev pub entry_of : List Entry → List ℕ → FoundAt → List ℕ
entry_of entries name line = left_entry entries name line.0 line.1 line.2

-- something is reported of a line in which something is found
abbrev pub is_reported : List Entry → Bool → List ℕ → FoundAt → Bool
is_reported entries writes name line = not (length (reported_of entries writes name line) == 0)

-- something is reported of one of these lines
abbrev pub is_any_reported : List Entry → Bool → List ℕ → List FoundAt → Bool
is_any_reported entries writes name [] = false
is_any_reported entries writes name (line ∷ lines) =
    is_reported entries writes name line || is_any_reported entries writes name lines

-- all that is reported of them in a report of this form, with `later` if it has findings already
abbrev pub lines_report : List Entry → Bool → Form → Bool → List ℕ → List FoundAt → List ℕ
lines_report entries writes form later name [] = []
lines_report entries writes form later name (line ∷ lines) =
    line_report form later name line.1 line.3 (reported_of entries writes name line)
    ++ lines_report entries writes form (later || is_reported entries writes name line) name lines
