-- All parts of a line, which one call writes, and the buffers with room for them.
use Rattle.std.specs.Prelude.{◌≡◌, ℕ, ◌<◌, ◌≤◌, All, IsTrue, Bool, ◌&&◌, ◌||◌, nat_le, nat_lt, List, length, map, Option, Result, OnOk, OnErr, IfOk}
use Rattle.std.specs.Option.{option_or}
use Rattle.std.specs.declared.ops.Range.{Range}
use Rattle.bidi_base.specs.Display.{visual_runs}
use Rattle.bidi_base.specs.Text.{text_len}
use Rattle.bidi_calls.specs.declared.buffers.LineBuffers.{LineBuffers}
use Rattle.bidi_calls.specs.declared.line.CallerLine.{CallerLine}
use Rattle.bidi_calls.specs.Buffers.{written_if_room}
use Rattle.bidi_calls.specs.CallerLine.{caller_line_levels}
use Rattle.bidi_calls.specs.LineText.{are_entries_per_char, order_of_line, reordered}
use Rattle.bidi_numbers.specs.declared.fault.Fault.{Fault}
use Rattle.bidi_numbers.specs.declared.fault.Fault.TheVariants.{UnevenCharacter, NoRoom}
use Rattle.bidi_numbers.specs.declared.structs.Run.{Run}
use Rattle.bidi_numbers.specs.Faults.{fault_unless, has_room_or_none}
use Rattle.bidi_numbers.specs.Structs.{run_struct}

-- the parts of a line, one list for each buffer of the call; the code units of the text may have any type
pub record LineParts (X : Type 0) : Type 0 where
  pub levels : List ℕ
  pub runs : List Run
  pub order : List ℕ
  pub text : List X

-- the visual runs of a line as structs
abbrev pub run_structs : CallerLine → List Run
run_structs l = map (run_struct l.start (caller_line_levels l)) (visual_runs l.start (caller_line_levels l))

-- a line with these characters: its levels after L1, its visual runs, the order of its characters, and this text
abbrev pub line_parts : {X : Type 0} → (ℕ → ℕ) → List ℕ → CallerLine → List X → LineParts X
line_parts len_of chars l text =
    record { levels = caller_line_levels l; runs = run_structs l; order = order_of_line len_of chars l; text = text }

-- each buffer has room for its part, or is empty
abbrev pub has_room_for : {X : Type 0} → LineParts X → LineBuffers X → Bool
has_room_for parts before =
    has_room_or_none (length parts.levels) (length before.levels.now)
    && (has_room_or_none (length parts.runs) (length before.runs.now)
    && (has_room_or_none (length parts.order) (length before.order.now)
    && has_room_or_none (length parts.text) (length before.text.now)))

-- the fault of the room for all parts
abbrev pub room_fault : {X : Type 0} → LineParts X → LineBuffers X → Option Fault
room_fault parts before = fault_unless (has_room_for parts before) NoRoom

-- each buffer that is not empty has its part
pub record IsWritten {X : Type 0} (parts : LineParts X) (before after : LineBuffers X) : Type 0 where
  pub levels : after.levels.now ≡ written_if_room parts.levels before.levels.now
  pub runs : after.runs.now ≡ written_if_room parts.runs before.runs.now
  pub order : after.order.now ≡ written_if_room parts.order before.order.now
  pub text : after.text.now ≡ written_if_room parts.text before.text.now
  pub characters : after.characters.now ≡ length parts.order

-- every buffer is unchanged
pub record IsUnchanged {X : Type 0} (before after : LineBuffers X) : Type 0 where
  pub levels : after.levels.now ≡ before.levels.now
  pub runs : after.runs.now ≡ before.runs.now
  pub order : after.order.now ≡ before.order.now
  pub text : after.text.now ≡ before.text.now
  pub characters : after.characters.now ≡ before.characters.now

-- the fields are the same buffers as before
pub record AreTheSameBuffers {X : Type 0} (before after : LineBuffers X) : Type 0 where
  pub levels : after.levels.ghost_name ≡ before.levels.ghost_name
  pub runs : after.runs.ghost_name ≡ before.runs.ghost_name
  pub order : after.order.ghost_name ≡ before.order.ghost_name
  pub text : after.text.ghost_name ≡ before.text.ghost_name
  pub characters : after.characters.ghost_name ≡ before.characters.ghost_name

-- the call writes the parts of a line to the buffers, or nothing after a fault, and returns the number of runs
pub record WritesLine {X : Type 0} (line : LineParts X) (result : Result ℕ Fault) (before after : LineBuffers X)
    : Type 0 where
  pub unchanged : OnErr result (IsUnchanged before after)
  pub parts : OnOk result (IsWritten line before after)
  pub count : IfOk result (λ count. count ≡ length line.runs)
  pub buffers : AreTheSameBuffers before after

-- a line with these characters and code units, and its text from left to right
abbrev pub parts_of_line : {X : Type 0} → (ℕ → ℕ) → (ℕ → List X) → List ℕ → List X → CallerLine → LineParts X
parts_of_line len_of encode chars units l = line_parts len_of chars l (reordered len_of encode chars units l)

-- the first fault of the code units of that line, and of the room for all parts
abbrev pub fault_of_parts : {X : Type 0} → (ℕ → ℕ) → (ℕ → List X) → List ℕ → List X → CallerLine → LineBuffers X → Option Fault
fault_of_parts len_of encode chars units l before =
    option_or (fault_unless (are_entries_per_char len_of chars l) UnevenCharacter)
    (room_fault (parts_of_line len_of encode chars units l) before)

-- a byte of UTF-8 begins a character
abbrev pub begins_character : ℕ → Bool
begins_character byte = nat_lt byte 0x80 || nat_le 0xC0 byte

-- each code unit of a text is a character, if the flag is set
abbrev pub AreCharsIf : Bool → (ℕ → ℕ) → List ℕ → Type 0
AreCharsIf flag len_of chars = IsTrue flag → text_len len_of chars ≡ length chars

-- each range begins below this number of code units, and ends at most there
abbrev pub AreWithin : ℕ → List (Range ℕ) → Type 0
AreWithin units ranges = All (λ r. r.start < units × r.end ≤ units) ranges
