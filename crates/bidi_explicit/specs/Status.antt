-- The status stack in code, as the state of `StatusMachine`.
use Rattle.std.specs.Prelude.{◌≡◌, ℕ, ◌+◌, List, ◌∷◌, drop, length, map, reverse}
use Rattle.bidi_base.specs.StatusMachine.{Entry, State}
use Rattle.bidi_explicit.specs.declared.explicit.status.StatusEntry.{StatusEntry}

-- an entry of the stack
abbrev pub seen : StatusEntry → Entry
seen e = record { status = record { level = e.level; override = e.override_class }; is_isolate = e.is_isolate }

-- the entries below the last one, innermost first
abbrev pub below_last : List StatusEntry → List StatusEntry
below_last entries = drop 1 (reverse entries)

-- the entry is the last one of a stack: the code keeps the entries outermost first
abbrev pub IsLast : StatusEntry → List StatusEntry → Type 0
IsLast top entries = reverse entries ≡ top ∷ below_last entries

-- the entry on top, the entries below it, innermost first, and the counts
abbrev pub state_by : StatusEntry → List StatusEntry → ℕ → ℕ → ℕ → State
state_by top below isolates embeddings valid = record {
  top = seen top;
  below = map seen below;
  overflow_isolates = isolates;
  overflow_embeddings = embeddings;
  valid_isolates = valid;
}

-- how many entries the stack has
abbrev pub entry_count : State → ℕ
entry_count s = length s.below + 1
