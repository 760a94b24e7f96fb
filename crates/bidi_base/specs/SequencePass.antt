-- A pass that begins and continues isolating run sequences (X10): which sequence the PDI of each open isolate continues,
-- and the members of each sequence.
use Rattle.std.specs.Prelude.{ℕ, ◌-◌, ◌<◌, ◌==◌, if◌then◌else◌, Bool, List, [], ◌∷◌, ◌++◌, length, take, get_or, slice_set, Option, Some, None}
use Rattle.bidi_base.specs.declared.char_data.BidiClass.{BidiClass}
use Rattle.bidi_base.specs.Classes.{is_isolate_initiator, is_pdi}
use Rattle.bidi_base.specs.Indexes.{class_at, first_or, last_or}
use Rattle.bidi_base.specs.Sequences.{level_at}

-- what waits for the PDI of each open isolate, innermost last, after a character of this class: an initiator adds
-- `wait`, and a PDI removes the last
abbrev pub read_class : BidiClass → Option ℕ → List (Option ℕ) → List (Option ℕ)
read_class c wait waits = if is_isolate_initiator c then waits ++ wait ∷ [] else if is_pdi c then take (length waits - 1) waits else waits

-- the sequence that a character of this class continues if it begins a level run
abbrev pub waiting_for : BidiClass → List (Option ℕ) → Option ℕ
waiting_for c waits = if is_pdi c then last_or None waits else None

-- what waits for the PDI of the previous character, which is in the sequence at s: nothing if the next one has the same
-- level
abbrev pub wait_of : Bool → ℕ → Option ℕ
wait_of same s = if same then None else Some s

-- the sequence that a character of this class continues: that at s if it has the same level as the previous one
abbrev pub choice : Bool → ℕ → BidiClass → List (Option ℕ) → Option ℕ
choice same s c waits = if same then Some s else waiting_for c waits

-- what waits at the character at p, and the sequence that it continues, by the last kept character before it, if there
-- is one, and the index of its sequence
abbrev pub waits_before : List BidiClass → List ℕ → Option (ℕ × ℕ) → ℕ → List (Option ℕ) → List (Option ℕ)
waits_before classes levels None p waits = waits
waits_before classes levels (Some e) p waits =
    read_class (class_at classes e.0) (wait_of (level_at levels e.0 == level_at levels p) e.1) waits

abbrev pub choice_at : List BidiClass → List ℕ → Option (ℕ × ℕ) → ℕ → List (Option ℕ) → Option ℕ
choice_at classes levels None p waits = None
choice_at classes levels (Some e) p waits = choice (level_at levels e.0 == level_at levels p) e.1 (class_at classes p) waits

-- the lists after an element is added to the list at s, or to a new one
abbrev pub with_entry : {X : Type 0} → Option ℕ → X → List (List X) → List (List X)
with_entry None x out = out ++ (x ∷ []) ∷ []
with_entry (Some s) x out = slice_set out s (get_or out s [] ++ x ∷ [])

-- the index of that list
abbrev pub index_of : {X : Type 0} → Option ℕ → List X → ℕ
index_of None out = length out
index_of (Some s) out = s

-- the character indexes of a sequence: there is at least one, and the first and the last are in the text
pub record ArePlaces (count : ℕ) (places : List ℕ) : Type 0 where
  pub not_empty : 0 < length places
  pub first : first_or 0 places < count
  pub last : last_or 0 places < count
