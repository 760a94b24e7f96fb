-- The paragraphs and the classes of a text, without levels: what a call writes to the buffers of its caller.
use Rattle.std.specs.Prelude.{◌≡◌, ℕ, ◌&&◌, length, Option, Result, OnOk, OnErr, IfOk}
use Rattle.std.specs.Option.{option_or}
use Rattle.bidi_calls.specs.BaseNumbers.{is_base}
use Rattle.bidi_calls.specs.Buffers.{written_if_room, AnalysisAsNumbers}
use Rattle.bidi_calls.specs.declared.buffers.ParagraphBuffers.{ParagraphBuffers}
use Rattle.bidi_calls.specs.declared.buffers.Settings.{Settings}
use Rattle.bidi_numbers.specs.Faults.{fault_unless, has_room_or_none}
use Rattle.bidi_numbers.specs.Numbers.{is_split}
use Rattle.bidi_numbers.specs.declared.fault.Fault.{Fault}
use Rattle.bidi_numbers.specs.declared.fault.Fault.TheVariants.{BadBaseLevel, BadSplit, NoRoom}

-- the fault of the room for the classes and for the paragraphs
abbrev pub room_fault : AnalysisAsNumbers → ParagraphBuffers → Option Fault
room_fault found before =
    fault_unless (has_room_or_none (length found.classes) (length before.classes.now)
    && has_room_or_none (length found.paragraphs) (length before.paragraphs.now)) NoRoom

-- the first fault after that of the code units
abbrev pub search_fault : Settings → AnalysisAsNumbers → ParagraphBuffers → Option Fault
search_fault settings found before =
    option_or (fault_unless (is_base settings.base) BadBaseLevel)
    (option_or (fault_unless (is_split settings.split) BadSplit) (room_fault found before))

-- both buffers are unchanged
pub record IsUnchanged (before after : ParagraphBuffers) : Type 0 where
  pub classes : after.classes.now ≡ before.classes.now
  pub paragraphs : after.paragraphs.now ≡ before.paragraphs.now

-- the fields are the same buffers as before
pub record AreTheSameBuffers (before after : ParagraphBuffers) : Type 0 where
  pub classes : after.classes.ghost_name ≡ before.classes.ghost_name
  pub paragraphs : after.paragraphs.ghost_name ≡ before.paragraphs.ghost_name

-- the call writes the classes and the paragraphs that it finds, each unless its buffer is empty, or nothing after a fault,
-- and returns the number of paragraphs
pub record WritesParagraphs (found : AnalysisAsNumbers) (result : Result ℕ Fault) (before after : ParagraphBuffers) : Type 0 where
  pub unchanged : OnErr result (IsUnchanged before after)
  pub classes : OnOk result (after.classes.now ≡ written_if_room found.classes before.classes.now)
  pub paragraphs : OnOk result (after.paragraphs.now ≡ written_if_room found.paragraphs before.paragraphs.now)
  pub count : IfOk result (λ count. count ≡ length found.paragraphs)
  pub buffers : AreTheSameBuffers before after
