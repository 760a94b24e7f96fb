-- Paths as references of URIs.
use Rattle.std.specs.Prelude.{ℕ, if◌then◌else◌, List, drop, codes, nat_eq}
use Rattle.std.specs.List.{starts_with}
use Rattle.percent_encoding.specs.Percent.{percent_encode}
use Rattle.bidi_terminal.specs.declared.uri.TheConstants.{NOT_IN_PATHS}

-- a path without the ./ that it may begin with
abbrev pub plain_path : List ℕ → List ℕ
plain_path path = if starts_with nat_eq path (codes "./") then drop 2 path else path

-- a path as a reference: letters, digits, `-`, `.`, `_`, `~` and `/` are unchanged, every other byte is escaped
abbrev pub uri_of : List ℕ → List ℕ
uri_of path = percent_encode NOT_IN_PATHS (plain_path path)
