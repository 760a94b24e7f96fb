-- What a call writes to the buffers of its caller, and its faults.
use Rattle.std.specs.Prelude.{◌≡◌, ℕ, ◌==◌, ◌&&◌, nat_le, IsTrue, if◌then◌else◌, List, length, ◌++◌, drop, map, flat_map, Option, Result, OnOk, OnErr, IfOk}
use Rattle.std.specs.Option.{option_or}
use Rattle.bidi_base.specs.Classes.{class_number}
use Rattle.bidi_base.specs.Paragraphs.{ranges_from}
use Rattle.bidi_base.specs.Source.{Source}
use Rattle.bidi_base.specs.Stored.{text_classes}
use Rattle.bidi_base.specs.Text.{per_unit}
use Rattle.unicode_bidi.specs.Base.{level_with, stored_levels_with}
use Rattle.unicode_bidi.specs.SplitRule.{pieces_by}
use Rattle.unicode_bidi.specs.declared.base.Base.{Base}
use Rattle.bidi_base.specs.declared.split_rule.SplitRule.{SplitRule}
use Rattle.bidi_numbers.specs.declared.fault.Fault.{Fault}
use Rattle.bidi_numbers.specs.declared.fault.Fault.TheVariants.{BadBaseLevel, BadSplit, NoRoom}
use Rattle.bidi_numbers.specs.declared.structs.Paragraph.{Paragraph}
use Rattle.bidi_calls.specs.BaseNumbers.{base_of, is_base}
use Rattle.bidi_calls.specs.declared.buffers.AnalysisBuffers.{AnalysisBuffers}
use Rattle.bidi_calls.specs.declared.buffers.Settings.{Settings}
use Rattle.bidi_numbers.specs.Faults.{fault_unless, has_room_or_none}
use Rattle.bidi_numbers.specs.Numbers.{is_split, split_of}
use Rattle.bidi_numbers.specs.Structs.{paragraph_structs}

-- a buffer after a list was written to its front
abbrev pub written : {A : Type 0} → List A → List A → List A
written xs buffer = xs ++ drop (length xs) buffer

-- the same for a buffer that may be empty, and then is unchanged
abbrev pub written_if_room : {A : Type 0} → List A → List A → List A
written_if_room xs buffer = if length buffer == 0 then buffer else written xs buffer

-- a buffer has room for a list, or is empty
abbrev pub HasRoomOrNone : {A B : Type 0} → List A → List B → Type 0
HasRoomOrNone xs buffer = IsTrue (has_room_or_none (length xs) (length buffer))

-- the call writes a list to the front of a buffer, or nothing after a fault, and returns the number of its entries
pub record WritesList {A : Type 0} (xs : List A) (result : Result ℕ Fault) (before after : List A) : Type 0 where
  pub unchanged : OnErr result (after ≡ before)
  pub list : OnOk result (after ≡ written xs before)
  pub count : IfOk result (λ count. count ≡ length xs)

-- the numbers of the stored classes of a text's code units (X5c)
abbrev pub class_numbers : Source → Option SplitRule → (ℕ → ℕ) → List ℕ → List ℕ
class_numbers source rule len_of chars =
    map class_number (per_unit len_of chars (text_classes source (pieces_by rule source chars)))

-- the stored levels of a text's code units (X1 to I2)
abbrev pub level_numbers : Source → Base → Option SplitRule → (ℕ → ℕ) → List ℕ → List ℕ
level_numbers source base rule len_of chars =
    per_unit len_of chars (flat_map (stored_levels_with source base) (pieces_by rule source chars))

-- the paragraphs of a text (P1) with their levels (P2, P3)
abbrev pub paragraphs_in : Source → Base → Option SplitRule → (ℕ → ℕ) → List ℕ → List Paragraph
paragraphs_in source base rule len_of chars =
    let pieces = pieces_by rule source chars in
    paragraph_structs (ranges_from len_of 0 pieces) (map (level_with source base) pieces)

-- what a call finds of a text: the numbers of the class and the level of each code unit, and the paragraphs
pub record AnalysisAsNumbers : Type 0 where
  pub classes : List ℕ
  pub levels : List ℕ
  pub paragraphs : List Paragraph

abbrev pub analysis_of : Source → Base → Option SplitRule → (ℕ → ℕ) → List ℕ → AnalysisAsNumbers
analysis_of source base rule len_of chars = record {
  classes = class_numbers source rule len_of chars;
  levels = level_numbers source base rule len_of chars;
  paragraphs = paragraphs_in source base rule len_of chars;
}

-- the same, from the numbers that a caller passes
abbrev pub analysis_by : Source → Settings → (ℕ → ℕ) → List ℕ → AnalysisAsNumbers
analysis_by source settings len_of chars =
    analysis_of source (base_of settings.base) (split_of settings.split) len_of chars

-- the fault of the room for the paragraphs
abbrev pub paragraphs_fault : AnalysisAsNumbers → AnalysisBuffers → Option Fault
paragraphs_fault found before =
    fault_unless (has_room_or_none (length found.paragraphs) (length before.paragraphs.now)) NoRoom

-- the first fault of a call over a text of so many code units, from its settings and the room for what it finds
abbrev pub analysis_fault : Settings → ℕ → AnalysisAsNumbers → AnalysisBuffers → Option Fault
analysis_fault settings units found before =
    option_or (fault_unless (is_base settings.base) BadBaseLevel)
    (option_or (fault_unless (is_split settings.split) BadSplit)
    (option_or
    (fault_unless (nat_le units (length before.classes.now) && nat_le units (length before.levels.now)) NoRoom)
    (paragraphs_fault found before)))

-- every buffer is unchanged
pub record IsUnchanged (before after : AnalysisBuffers) : Type 0 where
  pub classes : after.classes.now ≡ before.classes.now
  pub levels : after.levels.now ≡ before.levels.now
  pub paragraphs : after.paragraphs.now ≡ before.paragraphs.now

-- the fields are the same buffers as before
pub record AreTheSameBuffers (before after : AnalysisBuffers) : Type 0 where
  pub classes : after.classes.ghost_name ≡ before.classes.ghost_name
  pub levels : after.levels.ghost_name ≡ before.levels.ghost_name
  pub paragraphs : after.paragraphs.ghost_name ≡ before.paragraphs.ghost_name

-- the call writes what it finds to the buffers, or nothing after a fault, and returns the number of paragraphs
pub record WritesAnalysis (found : AnalysisAsNumbers) (result : Result ℕ Fault) (before after : AnalysisBuffers) : Type 0 where
  pub unchanged : OnErr result (IsUnchanged before after)
  pub classes : OnOk result (after.classes.now ≡ written found.classes before.classes.now)
  pub levels : OnOk result (after.levels.now ≡ written found.levels before.levels.now)
  pub paragraphs : OnOk result (after.paragraphs.now ≡ written_if_room found.paragraphs before.paragraphs.now)
  pub count : IfOk result (λ count. count ≡ length found.paragraphs)
  pub buffers : AreTheSameBuffers before after
