-- The explicit pass by stretches between controls: what it has written once it has read a part of the paragraph.
use Rattle.std.specs.Prelude.{◌≡◌, ℕ, ◌<◌, ◌≤◌, true, if◌then◌else◌, List, length, get_or, Option, Some, None}
use Rattle.bidi_base.specs.declared.char_data.BidiClass.{BidiClass}
use Rattle.bidi_base.specs.declared.char_data.BidiClass.TheVariants.{L}
use Rattle.bidi_base.specs.Classes.{is_kept_in_place}
use Rattle.bidi_base.specs.Explicit.{explicit_levels, processing_classes}
use Rattle.bidi_base.specs.Indexes.{class_at}
use Rattle.bidi_base.specs.StatusMachine.{State, state_at}
use Rattle.bidi_base.specs.Texts.{Encoding, Text, unit_index, text_len, per_char, per_unit, IsPerChar}
use Rattle.bidi_base.specs.Updated.{IsUpdated}
use Rattle.bidi_explicit.specs.RunCutting.{runs_before, run_start, IsCutTo}
use Rattle.bidi_explicit.specs.declared.explicit.stretches.OpenRun.{OpenRun}
use Rattle.bidi_explicit.specs.declared.explicit.stretches.Progress.{Progress}

-- the classes from a code unit on are still the stored ones
abbrev pub IsUnread : List BidiClass → List BidiClass → ℕ → Type 0
IsUnread original_classes classes from = (u : ℕ) → from ≤ u → class_at classes u ≡ class_at original_classes u

-- the class that a class becomes inside an override, if it is no control's (X6): BN stays
abbrev pub put_over : BidiClass → BidiClass → BidiClass
put_over put c = if is_kept_in_place c then put else c

-- the same, if there may be no override
abbrev pub overridden : Option BidiClass → BidiClass → BidiClass
overridden None c = c
overridden (Some put) c = put_over put c

-- the code units from `from` up to `to` have the class of the override, if there is one, and all others are unchanged
abbrev pub IsOverridden : Option BidiClass → ℕ → ℕ → List BidiClass → List BidiClass → Type 0
IsOverridden override from to old new = IsUpdated L (λ u. true) (overridden override) from to old new

-- a paragraph, with the stored class of each code unit
pub record Paragraph (encoding : Encoding) : Type 0 where
  pub text : Text encoding
  pub level : ℕ
  pub original : List BidiClass

abbrev pub paragraph_of : {encoding : Encoding} → Text encoding → ℕ → List BidiClass → Paragraph encoding
paragraph_of text level original_classes = record { text = text; level = level; original = original_classes }

-- the stored class of each character
abbrev pub stored : {encoding : Encoding} → Paragraph encoding → List BidiClass
stored p = per_char L p.text p.original

-- the explicit level and the processing class of each character
abbrev pub levels_of : {encoding : Encoding} → Paragraph encoding → List ℕ
levels_of p = explicit_levels p.level (stored p)

abbrev pub classes_of : {encoding : Encoding} → Paragraph encoding → List BidiClass
classes_of p = processing_classes p.level (stored p)

-- the pass has read the code units before u, and u is a boundary
pub record IsReadTo {encoding : Encoding} (p : Paragraph encoding) (u : ℕ) (stack : State) (levels : List ℕ) (classes : List BidiClass)
    (runs : List (ℕ × ℕ)) (run : OpenRun) : Type 0 where
  pub per_char : IsPerChar p.text p.original
  pub index : ℕ
  pub begins : u ≡ unit_index p.text index
  pub within : index ≤ length p.text.chars
  pub machine : stack ≡ state_at p.level (stored p) index
  pub levels_long : length levels ≡ text_len p.text
  pub classes_long : length classes ≡ text_len p.text
  pub levels_written : (v : ℕ) → v < u → get_or levels v 0 ≡ get_or (per_unit p.text (levels_of p)) v 0
  pub classes_written : (v : ℕ) → v < u → class_at classes v ≡ class_at (per_unit p.text (classes_of p)) v
  pub unread : IsUnread p.original classes u
  pub cut : IsCutTo encoding.len_of p.text.chars (stored p) (levels_of p) index runs run.start run.last_level

-- the level runs that have ended after a stretch or a control of this level, by its first code unit that X9 keeps, if
-- there is one; and the run that is then open
abbrev pub runs_after : Option ℕ → ℕ → OpenRun → List (ℕ × ℕ) → List (ℕ × ℕ)
runs_after None level run runs = runs
runs_after (Some unit) level run runs = runs_before run.last_level level run.start unit runs

abbrev pub open_run_after : Option ℕ → ℕ → OpenRun → OpenRun
open_run_after None level run = run
open_run_after (Some unit) level run = record { start = run_start run.last_level level run.start unit; last_level = Some level }

-- the pass has read a stretch or a control from `from` on, whatever runs came before it
abbrev pub ReadsOn : {encoding : Encoding} → Paragraph encoding → ℕ → State → List ℕ → List BidiClass → Progress → State → List ℕ → List BidiClass → Type 0
ReadsOn p from stack levels classes read stack_now levels_now classes_now =
    (runs : List (ℕ × ℕ)) (run : OpenRun) → IsReadTo p from stack levels classes runs run
    → IsReadTo p read.end stack_now levels_now classes_now (runs_after read.first_kept read.level run runs)
    (open_run_after read.first_kept read.level run)
