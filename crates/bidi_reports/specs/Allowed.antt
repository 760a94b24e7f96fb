-- Which findings an allow-list allows.
use Rattle.std.specs.Prelude.{◌≡◌, ℕ, ◌+◌, ◌-◌, ◌<◌, ◌==◌, ◌&&◌, ◌||◌, Bool, false, not, nat_eq, if◌then◌else◌, List, [], ◌∷◌, ◌++◌, codes, drop, get_or, length, slice_index, take, Option, Some, None, is_none, ⊤}
use Rattle.std.specs.List.{ends_with, list_any, starts_with}
use Rattle.std.specs.Option.{option_to_list}
use Rattle.bidi_controls.specs.Decoded.{utf8_fault}
use Rattle.bidi_reports.specs.AllowIndex.{allows_at}
use Rattle.bidi_reports.specs.Entries.{Entry, Query, entry_allows, entry_of, fields_of}
use Rattle.bidi_reports.specs.declared.allowed.ListFault.{ListFault}
use Rattle.bidi_reports.specs.declared.allowed.ListFault.TheVariants.{NotUtf8, NotAnEntry, Memory}

-- ---- how a list is written

-- a list without the byte order mark that it may begin with
abbrev pub without_mark : List ℕ → List ℕ
without_mark text = if starts_with nat_eq text (0xEF ∷ 0xBB ∷ 0xBF ∷ []) then drop 3 text else text

-- a line without the carriage return that it may end in
abbrev pub without_return : List ℕ → List ℕ
without_return line = if ends_with nat_eq line (codes "\r") then take (length line - 1) line else line

-- an empty line, or one that begins with #
abbrev pub is_comment : List ℕ → Bool
is_comment line = length line == 0 || slice_index line 0 == 35

-- a line that is no comment and cannot be understood
abbrev pub is_wrong : ℕ → List ℕ → Bool
is_wrong number line = not (is_comment (without_return line)) && is_none (entry_of number (without_return line))

-- what a line allows
abbrev pub entries_in : ℕ → List ℕ → List Entry
entries_in number line = if is_comment (without_return line) then [] else option_to_list (entry_of number (without_return line))

-- what lines allow, the first of which has this number
abbrev pub entries_from : ℕ → List (List ℕ) → List Entry
entries_from number [] = []
entries_from number (line ∷ lines) = entries_in number line ++ entries_from (number + 1) lines

-- the number of the first of these lines that cannot be understood
abbrev pub first_wrong : ℕ → List (List ℕ) → Option ℕ
first_wrong number [] = None
first_wrong number (line ∷ lines) = if is_wrong number line then Some number else first_wrong (number + 1) lines

-- the lines of a list; a carriage return before a line feed is in the line
abbrev pub lines_of : List ℕ → List (List ℕ)
lines_of text = fields_of 10 (without_mark text)

-- what a list allows
unfoldable pub entries_of : List ℕ → List Entry
entries_of text = entries_from 1 (lines_of text)

-- the fault is the first of these lines that cannot be understood, or that an allocation failed
abbrev pub ReportsLines : List (List ℕ) → ListFault → Type 0
ReportsLines lines (NotUtf8 at) = ⊥
ReportsLines lines (NotAnEntry number) = first_wrong 1 lines ≡ Some number
ReportsLines lines Memory = ⊤

-- the fault is the first byte that is not UTF-8, or the first line that cannot be understood, or that an allocation
-- failed
abbrev pub ReportsText : List ℕ → ListFault → Type 0
ReportsText text (NotUtf8 at) = utf8_fault text ≡ Some at
ReportsText text (NotAnEntry number) = (utf8_fault text ≡ None) × (first_wrong 1 (lines_of text) ≡ Some number)
ReportsText text Memory = ⊤

-- ---- what it allows

-- a list: its entries, and for each whether it has allowed something
pub record AllowList : Type 0 where
  pub entries : List Entry
  pub used : List Bool

-- entries allow what is found
unfoldable pub allows : List Entry → Query → Bool
allows entries query = list_any (entry_allows query) entries

-- after these questions, the same entries are there, and those are used that were, or that allow one of what was found
pub record Notes (queries : List Query) (old new : AllowList) : Type 0 where
  pub entries : new.entries ≡ old.entries
  pub used : (k : ℕ) → k < length old.entries → get_or new.used k false
      ≡ (get_or old.used k false || list_any (λ query. allows_at query old.entries k) queries)

-- the number of the line of an entry that has allowed nothing
abbrev pub unused_at : List Bool → List Entry → ℕ → List ℕ
unused_at used [] k = []
unused_at used (entry ∷ entries) k = (if get_or used k false then [] else entry.number ∷ []) ++ unused_at used entries (k + 1)

-- the numbers of the lines of those entries, in order
abbrev pub unused : AllowList → List ℕ
unused list = unused_at list.used list.entries 0
