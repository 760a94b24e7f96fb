-- How the entries of an allow-list are found: each has a key, and what is found has the keys of all entries that can
-- allow it.
use Rattle.std.specs.Prelude.{ℕ, ◌+◌, Bool, false, List, [], ◌∷◌, ◌++◌, filter, flat_map, map, codes, decimal, encode_utf8, Option, Some, None, option_map, slice_get}
use Rattle.std.specs.Str.{bytes_eq, chars}
use Rattle.bidi_reports.specs.Entries.{Entry, Query, entry_allows}
use Rattle.bidi_reports.specs.Patterns.{plain_path}
use Rattle.bidi_reports.specs.declared.glob.Part.{Part}
use Rattle.bidi_reports.specs.declared.glob.Part.TheVariants.{Char, One, InName, Any}

-- the text of a pattern without wildcards
abbrev pub literal_text : List Part → Option (List ℕ)
literal_text [] = Some []
literal_text (Char c ∷ parts) = option_map (λ more. encode_utf8 c ++ more) (literal_text parts)
literal_text (One ∷ parts) = None
literal_text (InName ∷ parts) = None
literal_text (Any ∷ parts) = None

-- a line of a file
abbrev pub line_key : List ℕ → ℕ → List ℕ
line_key path number = path ++ (codes ":" ++ decimal number)

-- a digest; its bytes are ASCII
abbrev pub digest_key : List ℕ → List ℕ
digest_key digest = flat_map encode_utf8 digest

-- a digest in the file of a path
abbrev pub digest_path_key : List ℕ → List ℕ → List ℕ
digest_path_key digest path = digest_key digest ++ (codes ":" ++ path)

-- the key of an entry with a digest: with its path, but without one for other patterns
abbrev pub place_key : List ℕ → Option (List ℕ) → List ℕ
place_key digest None = digest_key digest
place_key digest (Some path) = digest_path_key digest path

-- the key of an entry: the digest, the path or the line that it is for, and nothing for other patterns
abbrev pub path_key : Option (List ℕ) → Option ℕ → List ℕ
path_key None line = []
path_key (Some path) None = path
path_key (Some path) (Some number) = line_key path number

abbrev pub key_with : Option (List ℕ) → Option (List ℕ) → Option ℕ → List ℕ
key_with (Some digest) path line = place_key digest path
key_with None path line = path_key path line

abbrev pub key_of : Entry → List ℕ
key_of entry = key_with entry.digest (literal_text entry.parts) entry.line

-- the keys of the entries that can allow what is found
abbrev pub name_key : List ℕ → List ℕ
name_key name = flat_map encode_utf8 (chars (plain_path name))

abbrev pub place_keys : List ℕ → Option (ℕ × List ℕ) → List (List ℕ)
place_keys path None = []
place_keys path (Some place) = digest_key place.1 ∷ digest_path_key place.1 path ∷ line_key path place.0 ∷ []

abbrev pub keys_of : Query → List (List ℕ)
keys_of query = [] ∷ name_key query.name ∷ place_keys (name_key query.name) query.place

-- entries with their keys and their indexes, the first of which is `from`
abbrev pub keyed_from : ℕ → List Entry → List (List ℕ × ℕ)
keyed_from from [] = []
keyed_from from (entry ∷ entries) = (key_of entry, from) ∷ keyed_from (from + 1) entries

-- the indexes of a key
abbrev pub indexes_at : List ℕ → List (List ℕ × ℕ) → List ℕ
indexes_at key pairs = map (λ p. p.1) (filter (λ p. bytes_eq key p.0) pairs)

-- an entry of a list, if there is one at this index, allows what is found
abbrev pub allowed_by : Query → Option Entry → Bool
allowed_by query None = false
allowed_by query (Some entry) = entry_allows query entry

abbrev pub allows_at : Query → List Entry → ℕ → Bool
allows_at query entries k = allowed_by query (slice_get entries k)
