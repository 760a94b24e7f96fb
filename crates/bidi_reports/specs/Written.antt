-- The entries of an allow-list for what is found.
use Rattle.std.specs.Prelude.{ℕ, ◌==◌, ◌||◌, Bool, nat_eq, if◌then◌else◌, List, [], ◌∷◌, ◌++◌, codes, encode_utf8, flat_map}
use Rattle.std.specs.List.{list_any, starts_with}
use Rattle.std.specs.Str.{chars}
use Rattle.bidi_controls.specs.declared.finding.Finding.{Finding}
use Rattle.bidi_reports.specs.Globs.{is_special}
use Rattle.bidi_reports.specs.Kinds.{is_same_kind, kind_name}
use Rattle.bidi_terminal.specs.Names.{code_escape, is_hidden}
use Rattle.bidi_reports.specs.Patterns.{plain_path}
use Rattle.bidi_reports.specs.declared.kind.Kind.{Kind}
use Rattle.bidi_reports.specs.declared.kind.Kind.TheVariants as variant

-- a character of a path: a hidden one and a colon are written by their number, and a backslash is before one that would
-- mean something else
abbrev pub escaped_if : Bool → List ℕ → List ℕ
escaped_if special text = if special then codes "\\" ++ text else text

abbrev pub written_char : ℕ → List ℕ
written_char c = if is_hidden c || c == 58 then code_escape c else escaped_if (is_special c) (encode_utf8 c)

-- before a path that begins like a comment or with ./
abbrev pub path_start : List ℕ → List ℕ
path_start plain = if starts_with nat_eq plain (codes "#") || starts_with nat_eq plain (codes "./") then codes "./" else []

-- a path that a list reads as the file of this name
unfoldable pub written_path : List ℕ → List ℕ
written_path name = path_start (plain_path name) ++ flat_map written_char (chars (plain_path name))

-- names of kinds, with commas between them
abbrev pub later_kind : Kind → List ℕ
later_kind kind = codes "," ++ kind_name kind

unfoldable pub kind_list : List Kind → List ℕ
kind_list [] = []
kind_list (kind ∷ kinds) = kind_name kind ++ flat_map later_kind kinds

-- kinds, each once
abbrev pub with_kind : List Kind → Kind → List Kind
with_kind kinds kind = if list_any (is_same_kind kind) kinds then kinds else kinds ++ kind ∷ []

abbrev pub distinct_kinds : List Kind → List Finding → List Kind
distinct_kinds kinds [] = kinds
distinct_kinds kinds (finding ∷ findings) = distinct_kinds (with_kind kinds (variant.Finding finding.trouble)) findings

abbrev pub finding_kinds : List Finding → List Kind
finding_kinds findings = distinct_kinds [] findings

-- the entry for findings in the lines that have this digest
unfoldable pub line_entry : List ℕ → List ℕ → List Finding → List ℕ
line_entry name digest findings =
    written_path name ++ (codes "\t" ++ (kind_list (finding_kinds findings) ++ (codes "\t#" ++ (digest ++ codes "\n"))))

-- the entry for what is wrong with a file as a whole
unfoldable pub file_entry : List ℕ → Kind → List ℕ
file_entry name kind = written_path name ++ (codes "\t" ++ (kind_name kind ++ codes "\n"))
