-- A displayed line as a call writes it: its text from left to right, the order of its characters, and their places.
use Rattle.std.specs.Prelude.{◌≡◌, ℕ, Bool, ◌&&◌, List, length, flat_map, Option, Result, OnOk, OnErr, IfOk}
use Rattle.std.specs.Option.{option_or}
use Rattle.std.specs.declared.ops.Range.{Range}
use Rattle.bidi_base.specs.AnalysedText.{AnalysedText}
use Rattle.bidi_base.specs.Text.{text_len}
use Rattle.bidi_calls.specs.Buffers.{written_if_room}
use Rattle.bidi_calls.specs.CallerLine.{own_levels}
use Rattle.bidi_calls.specs.LineText.{are_entries_per_char, line_classes}
use Rattle.bidi_calls.specs.declared.line.CallerLine.{CallerLine}
use Rattle.bidi_display.specs.DisplayedLine.{clusters_of}
use Rattle.bidi_display.specs.LineChars.{line_chars}
use Rattle.bidi_display.specs.TextDisplay.{line_text}
use Rattle.bidi_display.specs.declared.options.DisplayOptions.{DisplayOptions}
use Rattle.bidi_calls.specs.Flags.{is_flags, mirrored_if, mirrors, options_by}
use Rattle.bidi_calls.specs.ShownOrder.{places_of, shown_order}
use Rattle.bidi_calls.specs.declared.display_buffers.DisplayBuffers.{DisplayBuffers}
use Rattle.bidi_numbers.specs.Faults.{fault_unless, has_room_or_none}
use Rattle.bidi_numbers.specs.declared.fault.Fault.{Fault}
use Rattle.bidi_numbers.specs.declared.fault.Fault.TheVariants.{BadFlags, NoRoom, UnevenCharacter}

-- the parts of a displayed line, one list for each buffer of the call; the code units of the text may have any type
pub record DisplayParts (X : Type 0) : Type 0 where
  pub text : List X
  pub order : List ℕ
  pub places : List ℕ

-- the parts of a line of so many characters, from its text and its order
abbrev pub found_parts : {X : Type 0} → List X → List ℕ → ℕ → DisplayParts X
found_parts text order count = record { text = text; order = order; places = places_of order count }

-- a line of an analysed text, whose paragraph has this level: its text in an encoding, and its maps
abbrev pub display_parts : {X : Type 0} → DisplayOptions → (ℕ → ℕ) → (ℕ → List X) → AnalysedText → ℕ → Range ℕ → DisplayParts X
display_parts options mirrored_of encode a level line =
    let chars = line_chars a level line in
    found_parts (flat_map encode (line_text options mirrored_of a level line))
    (shown_order options 0 chars (clusters_of options (λ cluster. 0) chars)) (length chars)

-- a line that a caller passes, as a text of its own, with the classes and the levels of the line
abbrev pub own_analysed : (ℕ → ℕ) → List ℕ → CallerLine → AnalysedText
own_analysed len_of chars l = record { len_of = len_of; chars = chars; classes = line_classes l; levels = own_levels l }

-- the whole of it
abbrev pub whole_line : (ℕ → ℕ) → List ℕ → Range ℕ
whole_line len_of chars = record { start = 0; end = text_len len_of chars }

-- the parts of that line, by the flags of the call
abbrev pub parts_by : {X : Type 0} → (ℕ → ℕ) → (ℕ → List X) → List ℕ → CallerLine → ℕ → DisplayParts X
parts_by len_of encode chars l flags =
    display_parts (options_by flags) (mirrored_if (mirrors flags)) encode (own_analysed len_of chars l) l.paragraph.now.level
    (whole_line len_of chars)

-- each buffer has room for its part, or is empty
abbrev pub has_room_for : {X : Type 0} → DisplayParts X → DisplayBuffers X → Bool
has_room_for parts before =
    has_room_or_none (length parts.text) (length before.text.now)
    && (has_room_or_none (length parts.order) (length before.order.now)
    && has_room_or_none (length parts.places) (length before.places.now))

-- the fault of the room for all parts
abbrev pub room_fault : {X : Type 0} → DisplayParts X → DisplayBuffers X → Option Fault
room_fault parts before = fault_unless (has_room_for parts before) NoRoom

-- the first fault after those of the line: of its code units, of the flags, and of the room
abbrev pub fault_of_parts : {X : Type 0} → (ℕ → ℕ) → (ℕ → List X) → List ℕ → CallerLine → ℕ → DisplayBuffers X → Option Fault
fault_of_parts len_of encode chars l flags before =
    option_or (fault_unless (are_entries_per_char len_of chars l) UnevenCharacter)
    (option_or (fault_unless (is_flags flags) BadFlags)
    (room_fault (parts_by len_of encode chars l flags) before))

-- each buffer that is not empty has its part
pub record IsWritten {X : Type 0} (parts : DisplayParts X) (before after : DisplayBuffers X) : Type 0 where
  pub text : after.text.now ≡ written_if_room parts.text before.text.now
  pub order : after.order.now ≡ written_if_room parts.order before.order.now
  pub places : after.places.now ≡ written_if_room parts.places before.places.now
  pub shown : after.shown.now ≡ length parts.order
  pub characters : after.characters.now ≡ length parts.places

-- every buffer is unchanged
pub record IsUnchanged {X : Type 0} (before after : DisplayBuffers X) : Type 0 where
  pub text : after.text.now ≡ before.text.now
  pub order : after.order.now ≡ before.order.now
  pub places : after.places.now ≡ before.places.now
  pub shown : after.shown.now ≡ before.shown.now
  pub characters : after.characters.now ≡ before.characters.now

-- the fields are the same buffers as before
pub record AreTheSameBuffers {X : Type 0} (before after : DisplayBuffers X) : Type 0 where
  pub text : after.text.ghost_name ≡ before.text.ghost_name
  pub order : after.order.ghost_name ≡ before.order.ghost_name
  pub places : after.places.ghost_name ≡ before.places.ghost_name
  pub shown : after.shown.ghost_name ≡ before.shown.ghost_name
  pub characters : after.characters.ghost_name ≡ before.characters.ghost_name

-- the call writes the parts of a line to the buffers, or nothing after a fault, and returns the length of the text
pub record WritesDisplay {X : Type 0} (parts : DisplayParts X) (result : Result ℕ Fault) (before after : DisplayBuffers X)
    : Type 0 where
  pub unchanged : OnErr result (IsUnchanged before after)
  pub written : OnOk result (IsWritten parts before after)
  pub count : IfOk result (λ count. count ≡ length parts.text)
  pub buffers : AreTheSameBuffers before after
