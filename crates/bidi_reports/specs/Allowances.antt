-- What an allow-list leaves of the findings, and the entries that would allow the rest.
use Rattle.std.specs.Prelude.{ℕ, ◌==◌, Bool, not, if◌then◌else◌, List, [], ◌++◌, filter, length, map, Option, Some, None, option_map}
use Rattle.bidi_controls.specs.declared.finding.Finding.{Finding}
use Rattle.bidi_reports.specs.Allowed.{AllowList, allows}
use Rattle.bidi_reports.specs.Digests.{line_digest}
use Rattle.bidi_reports.specs.Entries.{Entry, Query}
use Rattle.bidi_reports.specs.Written.{file_entry, line_entry}
use Rattle.bidi_reports.specs.declared.kind.Kind.{Kind}
use Rattle.bidi_reports.specs.declared.kind.Kind.TheVariants as variant

-- a list, and the entries for what it does not allow, if they are wanted
pub record Allowance : Type 0 where
  pub list : AllowList
  pub written : Option (List ℕ)

-- a finding in the line of this number and this digest
abbrev pub finding_query : List ℕ → ℕ → List ℕ → Finding → Query
finding_query name number digest finding =
    record { name = name; kind = variant.Finding finding.trouble; place = Some (number, digest) }

-- the findings in a line
abbrev pub line_queries : List ℕ → ℕ → List ℕ → List Finding → List Query
line_queries name number chars findings = map (finding_query name number (line_digest chars)) findings

-- what is wrong with a file as a whole
abbrev pub file_query : List ℕ → Kind → Query
file_query name kind = record { name = name; kind = kind; place = None }

-- the findings that entries do not allow
abbrev pub is_left : List Entry → List ℕ → ℕ → List ℕ → Finding → Bool
is_left entries name number digest finding = not (allows entries (finding_query name number digest finding))

abbrev pub left_findings : List Entry → List ℕ → ℕ → List ℕ → List Finding → List Finding
left_findings entries name number digest findings = filter (is_left entries name number digest) findings

-- the findings in a line that are reported: none if entries for them are wanted
unfoldable pub reported_findings : List Entry → Bool → List ℕ → ℕ → List ℕ → List Finding → List Finding
reported_findings entries writes name number chars findings =
    if writes then [] else left_findings entries name number (line_digest chars) findings

-- the entry for findings, if there are any
abbrev pub entry_for : List ℕ → List ℕ → List Finding → List ℕ
entry_for name digest left = if length left == 0 then [] else line_entry name digest left

-- the entry for the findings in a line that entries do not allow
unfoldable pub left_entry : List Entry → List ℕ → ℕ → List ℕ → List Finding → List ℕ
left_entry entries name number chars findings =
    entry_for name (line_digest chars) (left_findings entries name number (line_digest chars) findings)

-- entries with more of them, if they are wanted
abbrev pub with_more : List ℕ → Option (List ℕ) → Option (List ℕ)
with_more more written = option_map (λ text. text ++ more) written

-- the entry for what is wrong with a file as a whole, if entries do not allow it
unfoldable pub file_entry_left : List Entry → List ℕ → Kind → List ℕ
file_entry_left entries name kind = if allows entries (file_query name kind) then [] else file_entry name kind
