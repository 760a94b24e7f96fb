-- The entries of an allow-list: how they are written, and what they allow.
use Rattle.std.specs.Prelude.{ℕ, ◌+◌, ◌==◌, Bool, true, nat_le, ◌&&◌, ◌||◌, if◌then◌else◌, List, [], ◌∷◌, find, length, slice_index, take, drop, Option, Some, None, is_none, option_map}
use Rattle.std.specs.Char.{is_ascii_digit}
use Rattle.std.specs.List.{list_all, list_any, slice_split}
use Rattle.std.specs.Str.{bytes_eq}
use Rattle.bidi_base.specs.Indexes.{indexes}
use Rattle.bidi_reports.specs.Kinds.{is_finding, is_same_kind, kind_named}
use Rattle.bidi_reports.specs.LineNumbers.{is_digits, line_number}
use Rattle.bidi_reports.specs.Patterns.{allows_name, is_directory, path_parts, plain_path}
use Rattle.bidi_reports.specs.declared.glob.Part.{Part}
use Rattle.bidi_reports.specs.declared.kind.Kind.{Kind}

-- an entry: the line of the list that it stands on, counted from 1; the files that it is for; the number and the digest
-- of the line that it is for, if it is for one; and the kinds that it allows, if it names them
pub record Entry : Type 0 where
  pub number : ℕ
  pub parts : List Part
  pub line : Option ℕ
  pub digest : Option (List ℕ)
  pub kinds : Option (List Kind)

-- ---- how an entry is written

-- the parts of a text, which this byte separates
abbrev pub fields_of : ℕ → List ℕ → List (List ℕ)
fields_of separator text = slice_split (λ byte. byte == separator) text

-- at this index is a colon, and digits alone follow
abbrev pub is_number_colon : List ℕ → ℕ → Bool
is_number_colon text index = slice_index text index == 58 && is_digits (drop (index + 1) text)

-- the colon before the number of a line
abbrev pub number_colon : List ℕ → Option ℕ
number_colon text = find (is_number_colon text) (indexes text)

-- the files, and the number of a line
abbrev pub Target : Type 0
Target = List Part × Option ℕ

-- PATH, which must name something
abbrev pub whole_target : List ℕ → Option Target
whole_target path = option_map (λ parts. (parts, None)) (path_parts path)

-- PATH:LINE, which must not name a directory
abbrev pub line_target : List ℕ → Option ℕ → Option Target
line_target path None = None
line_target path (Some line) = if is_directory path then None else option_map (λ parts. (parts, Some line)) (path_parts path)

-- the same, with this colon before the number of a line
abbrev pub target_with : List ℕ → Option ℕ → Option Target
target_with text None = whole_target (plain_path text)
target_with text (Some colon) = line_target (plain_path (take colon text)) (line_number (drop (colon + 1) text))

abbrev pub target_of : List ℕ → Option Target
target_of text = target_with text (number_colon text)

-- the kinds of these names, if each is the name of one
abbrev pub more_kinds : Option Kind → Option (List Kind) → Option (List Kind)
more_kinds None kinds = None
more_kinds (Some kind) kinds = option_map (λ kinds. kind ∷ kinds) kinds

abbrev pub kinds_named : List (List ℕ) → Option (List Kind)
kinds_named [] = Some []
kinds_named (name ∷ names) = more_kinds (kind_named name) (kinds_named names)

-- kinds, which commas separate
abbrev pub kinds_of : List ℕ → Option (List Kind)
kinds_of text = kinds_named (fields_of 44 text)

-- a hexadecimal digit, in lower case if it is a letter
abbrev pub is_digest_digit : ℕ → Bool
is_digest_digit c = is_ascii_digit c || (nat_le 97 c && nat_le c 102)

-- the digest of a line: 32 of these digits
abbrev pub is_digest : List ℕ → Bool
is_digest text = length text == 32 && list_all is_digest_digit text

-- # and a digest
abbrev pub begins_with_hash : List ℕ → Bool
begins_with_hash text = slice_index text 0 == 35

abbrev pub digest_of : List ℕ → Option (List ℕ)
digest_of text = if begins_with_hash text && is_digest (drop 1 text) then Some (drop 1 text) else None

-- what a field says, if there is one: the outer `None` is a field that says nothing
abbrev pub if_some : {A : Type 0} → (List ℕ → Option A) → Option (List ℕ) → Option (Option A)
if_some read None = Some None
if_some read (Some text) = option_map (λ value. Some value) (read text)

-- the entry of this line, if each of its fields can be understood
abbrev pub entry_from : ℕ → Option Target → Option (Option (List Kind)) → Option (Option (List ℕ)) → Option Entry
entry_from number (Some target) (Some kinds) (Some digest) =
    Some (record { number = number; parts = target.0; line = target.1; digest = digest; kinds = kinds })
entry_from number _ _ _ = None

abbrev pub entry_with : ℕ → List ℕ → Option (List ℕ) → Option (List ℕ) → Option Entry
entry_with number target kinds digest = entry_from number (target_of target) (if_some kinds_of kinds) (if_some digest_of digest)

-- a target, and after it kinds, a digest or both
abbrev pub entry_of_fields : ℕ → List (List ℕ) → Option Entry
entry_of_fields number [] = None
entry_of_fields number (target ∷ []) = entry_with number target None None
entry_of_fields number (target ∷ field ∷ []) =
    if begins_with_hash field then entry_with number target None (Some field) else entry_with number target (Some field) None
entry_of_fields number (target ∷ kinds ∷ digest ∷ []) = entry_with number target (Some kinds) (Some digest)
entry_of_fields number (target ∷ kinds ∷ digest ∷ field ∷ fields) = None

-- the entry that a line writes, if it can be understood; a tab separates its fields
unfoldable pub entry_of : ℕ → List ℕ → Option Entry
entry_of number line = entry_of_fields number (fields_of 9 line)

-- ---- what an entry allows

-- what is found: the name of the file, the kind, and the number and the digest of the line, unless it is about the file
pub record Query : Type 0 where
  pub name : List ℕ
  pub kind : Kind
  pub place : Option (ℕ × List ℕ)

-- an entry that names no kinds allows each finding, and nothing else
abbrev pub allows_kind : Option (List Kind) → Kind → Bool
allows_kind None kind = is_finding kind
allows_kind (Some kinds) kind = list_any (is_same_kind kind) kinds

-- an entry without a number allows each line
abbrev pub allows_number : Option ℕ → ℕ → Bool
allows_number None number = true
allows_number (Some line) number = line == number

-- an entry without a digest allows each line
abbrev pub allows_digest : Option (List ℕ) → List ℕ → Bool
allows_digest None digest = true
allows_digest (Some own) digest = bytes_eq own digest

-- an entry for a line allows nothing that is about the file
abbrev pub allows_place : Option ℕ → Option (List ℕ) → Option (ℕ × List ℕ) → Bool
allows_place line digest None = is_none line && is_none digest
allows_place line digest (Some place) = allows_number line place.0 && allows_digest digest place.1

unfoldable pub entry_allows : Query → Entry → Bool
entry_allows query entry =
    allows_kind entry.kinds query.kind && (allows_place entry.line entry.digest query.place && allows_name entry.parts query.name)
