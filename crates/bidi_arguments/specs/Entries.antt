-- The names of files in a list and in a directory.
use Rattle.std.specs.Prelude.{ℕ, Bool, not, ◌==◌, ◌&&◌, ◌||◌, if◌then◌else◌, List, ◌++◌, length, slice_index, filter, codes, nat_eq}
use Rattle.std.specs.List.{ends_with, list_any, slice_split}
use Rattle.std.specs.Str.{bytes_eq}

-- the byte that separates the names of a list: NUL if there is one in it, or the line feed
abbrev pub separator_of : List ℕ → ℕ
separator_of bytes = if list_any (λ byte. nat_eq byte 0) bytes then 0 else 10

-- the names of a list, in order, without empty ones
abbrev pub listed_names : List ℕ → List (List ℕ)
listed_names bytes = filter (λ name. not (length name == 0)) (slice_split (λ byte. byte == separator_of bytes) bytes)

-- a name that begins with a dot
abbrev pub is_dotted : List ℕ → Bool
is_dotted name = slice_index name 0 == 46

-- the name of a directory in itself, or of the one above it
abbrev pub is_own : List ℕ → Bool
is_own name = bytes_eq name (codes ".") || bytes_eq name (codes "..")

-- a name below a directory that is searched, with hidden ones or without
abbrev pub is_searched : Bool → List ℕ → Bool
is_searched hidden name = not (length name == 0) && (if hidden then not (is_own name) else not (is_dotted name))

-- the names of a directory that are searched, if a NUL ends each name
abbrev pub searched_names : Bool → List ℕ → List (List ℕ)
searched_names hidden listing = filter (is_searched hidden) (slice_split (λ byte. byte == 0) listing)

-- the path of a name below a directory
abbrev pub path_below : List ℕ → List ℕ → List ℕ
path_below dir name = if ends_with nat_eq dir (codes "/") then dir ++ name else (dir ++ codes "/") ++ name
