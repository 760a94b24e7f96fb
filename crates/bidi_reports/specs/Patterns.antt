-- The files that an entry of an allow-list names.
use Rattle.std.specs.Prelude.{ℕ, Bool, true, false, not, ◌==◌, ◌&&◌, if◌then◌else◌, List, [], ◌∷◌, ◌++◌, codes, drop, length, nat_eq, Option, None, option_map}
use Rattle.std.specs.List.{ends_with, list_any, starts_with}
use Rattle.std.specs.Str.{chars}
use Rattle.bidi_controls.specs.Decoded.{utf8_decoded}
use Rattle.bidi_reports.specs.Globs.{matches, parts_of}
use Rattle.bidi_reports.specs.declared.glob.Part.{Part}
use Rattle.bidi_reports.specs.declared.glob.Part.TheVariants.{Char, One, InName, Any}

-- a path without the ./ that it may begin with
abbrev pub plain_path : List ℕ → List ℕ
plain_path path = if starts_with nat_eq path (codes "./") then drop 2 path else path

-- a path that names all that is below a directory
abbrev pub is_directory : List ℕ → Bool
is_directory path = ends_with nat_eq path (codes "/")

-- the parts of a path, and after those of a directory any characters
abbrev pub below_if : Bool → List Part → List Part
below_if directory parts = if directory then parts ++ Any ∷ [] else parts

abbrev pub path_parts : List ℕ → Option (List Part)
path_parts path =
    if length path == 0 then None else option_map (below_if (is_directory path)) (parts_of (utf8_decoded path))

abbrev pub is_wild : Part → Bool
is_wild (Char c) = false
is_wild One = true
is_wild InName = true
is_wild Any = true

abbrev pub is_slash : Part → Bool
is_slash (Char c) = c == 47
is_slash One = false
is_slash InName = false
is_slash Any = false

-- a pattern for the last part of a path: it has a wildcard, and no slash
abbrev pub is_name_pattern : List Part → Bool
is_name_pattern parts = list_any is_wild parts && not (list_any is_slash parts)

abbrev pub has_separator : List ℕ → Bool
has_separator path = list_any (λ c. c == 47) path

-- what follows the last slash of a path, or all of it
abbrev pub last_part : List ℕ → List ℕ
last_part [] = []
last_part (c ∷ path) = if has_separator (c ∷ path) then last_part path else c ∷ path

-- what a pattern has to match of a path
abbrev pub subject_of : List Part → List ℕ → List ℕ
subject_of parts path = if is_name_pattern parts then last_part path else path

-- a pattern allows a file of this name
unfoldable pub allows_name : List Part → List ℕ → Bool
allows_name parts name = matches parts (subject_of parts (chars (plain_path name)))
