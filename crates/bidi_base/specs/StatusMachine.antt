-- The directional status stack of X1 to X8 with its three counts, and what each character closes and opens.
use Rattle.std.specs.Prelude.{ℕ, zero, suc, ◌+◌, ◌-◌, ◌<◌, ◌≤◌, ◌≡◌, Bool, false, ◌&&◌, ◌||◌, ◌==◌, nat_lt, nat_le, if◌then◌else◌, List, [], ◌∷◌, None, unwrap_or, ⊤}
use Rattle.bidi_base.specs.declared.char_data.BidiClass.{BidiClass}
use Rattle.bidi_base.specs.Classes.{is_isolate_initiator, is_opener, is_pdi, is_pdf, is_paragraph_separator, is_removed}
use Rattle.bidi_base.specs.Levels.{max_depth}
use Rattle.bidi_base.specs.Indexes.{class_at}
use Rattle.bidi_base.specs.Explicit.{Status, override_of, next_level}

-- an entry of the stack: the status inside an opener that fits, or that of the paragraph
pub record Entry : Type 0 where
  pub status : Status
  pub is_isolate : Bool

-- the stack, innermost first and never empty, and the three counts (X1)
pub record State : Type 0 where
  pub top : Entry
  pub below : List Entry
  pub overflow_isolates : ℕ
  pub overflow_embeddings : ℕ
  pub valid_isolates : ℕ

abbrev pub start_status : ℕ → Status
start_status para_level = record { level = para_level; override = None }

abbrev pub start : ℕ → State
start para_level =
    record {
      top = record { status = start_status para_level; is_isolate = false };
      below = [];
      overflow_isolates = 0;
      overflow_embeddings = 0;
      valid_isolates = 0;
    }

-- the opener fits: the level that it sets is at most 125, and no open opener has overflowed
abbrev pub fits_in : BidiClass → State → Bool
fits_in c s = nat_le (next_level c s.top.status.level) max_depth && s.overflow_isolates == 0 && s.overflow_embeddings == 0

-- the entry that it pushes
abbrev pub entry_of : BidiClass → State → Entry
entry_of c s =
    record {
      status = record { level = next_level c s.top.status.level; override = override_of c };
      is_isolate = is_isolate_initiator c;
    }

abbrev pub taken : BidiClass → State → State
taken c s =
    record {
      top = entry_of c s;
      below = s.top ∷ s.below;
      overflow_isolates = s.overflow_isolates;
      overflow_embeddings = s.overflow_embeddings;
      valid_isolates = s.valid_isolates + (if is_isolate_initiator c then 1 else 0);
    }

abbrev pub refused : BidiClass → State → State
refused c s =
    if is_isolate_initiator c then record s { overflow_isolates = s.overflow_isolates + 1 }
    else if s.overflow_isolates == 0 then record s { overflow_embeddings = s.overflow_embeddings + 1 }
    else s

-- the state after an opener (X2 to X5c)
unfoldable pub entered : BidiClass → State → State
entered c s = if fits_in c s then taken c s else refused c s

-- the entries below the innermost isolate
abbrev pub drop_isolate : List Entry → List Entry
drop_isolate [] = []
drop_isolate (e ∷ es) = if e.is_isolate then es else drop_isolate es

-- the state with this stack; an empty one changes nothing
abbrev pub with_stack : State → List Entry → State
with_stack s [] = s
with_stack s (e ∷ es) = record s { top = e; below = es }

-- the state after a PDI closes an isolate, if it does (X6a)
unfoldable pub close_isolate : State → State
close_isolate s =
    if nat_lt 0 s.overflow_isolates then record s { overflow_isolates = s.overflow_isolates - 1 }
    else if s.valid_isolates == 0 then s
    else with_stack (record s { overflow_embeddings = 0; valid_isolates = s.valid_isolates - 1 }) (drop_isolate (s.top ∷ s.below))

-- the state after a PDF closes an embedding, if it does (X7)
unfoldable pub close_embedding : State → State
close_embedding s =
    if nat_lt 0 s.overflow_isolates then s
    else if nat_lt 0 s.overflow_embeddings then record s { overflow_embeddings = s.overflow_embeddings - 1 }
    else if s.top.is_isolate then s
    else with_stack s s.below

-- the state at a character, after it closed what it closes: its level is that of this state
unfoldable pub closed : BidiClass → State → State
closed c s = if is_pdi c then close_isolate s else if is_pdf c then close_embedding s else s

-- the state after a character opened what it opens
unfoldable pub opened : BidiClass → State → State
opened c s = if is_opener c then entered c s else s

abbrev pub step : BidiClass → State → State
step c s = opened c (closed c s)

-- the level and the class of the character itself
abbrev pub answer_level : ℕ → BidiClass → State → ℕ
answer_level para_level c s = if is_paragraph_separator c then para_level else (closed c s).top.status.level

abbrev pub answer_class : BidiClass → State → BidiClass
answer_class c s = if is_paragraph_separator c || is_removed c then c else unwrap_or (closed c s).top.status.override c

-- the state after the first p characters
unfoldable pub state_at : ℕ → List BidiClass → ℕ → State
state_at para_level classes zero = start para_level
state_at para_level classes (suc p) = step (class_at classes p) (state_at para_level classes p)

-- entries at levels below this one, each below the entry above it, and none below the paragraph level
abbrev pub AreBelow : ℕ → ℕ → List Entry → Type 0
AreBelow para_level level [] = ⊤
AreBelow para_level level (e ∷ es) = (para_level ≤ e.status.level) × (e.status.level < level) × AreBelow para_level e.status.level es

-- the levels of the stack go up, from the paragraph level to at most 125, so there are at most 126
pub record IsWithinDepth (para_level : ℕ) (s : State) : Type 0 where
  pub from : para_level ≤ s.top.status.level
  pub top : s.top.status.level ≤ 125
  pub below : AreBelow para_level s.top.status.level s.below

-- the sum of the three counts
abbrev pub counted : State → ℕ
counted s = s.overflow_isolates + s.overflow_embeddings + s.valid_isolates

-- if a PDI drops an isolate from the stack, the stack has one, and an entry below it
pub record IsPoppable (s : State) : Type 0 where
  pub pops : s.overflow_isolates ≡ 0 → 0 < s.valid_isolates → (t : State) × (drop_isolate (s.top ∷ s.below) ≡ t.top ∷ t.below)
