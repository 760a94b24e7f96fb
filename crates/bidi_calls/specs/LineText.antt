-- The text and the order of a line, from the classes and levels that the caller passes.
use Rattle.std.specs.Prelude.{◌≡◌, ℕ, ◌+◌, Bool, true, ◌&&◌, ◌||◌, ◌==◌, not, nat_le, if◌then◌else◌, List, length, map, flat_map, slice_range, get_or, Option}
use Rattle.std.specs.Option.{option_or}
use Rattle.bidi_base.specs.contracts.char_data.BidiClassPartialEq.TheImpl.{ghosts as class_test}
use Rattle.bidi_base.specs.contracts.level.LevelPartialEq.TheImpl.{ghosts as level_test}
use Rattle.bidi_base.specs.declared.char_data.BidiClass.{BidiClass}
use Rattle.bidi_base.specs.Levels.{is_odd}
use Rattle.bidi_base.specs.Order.{visual_order}
use Rattle.bidi_base.specs.Text.{per_char, is_per_char, unit_index}
use Rattle.bidi_base.specs.Texts.{Encoding, Text}
use Rattle.bidi_lines.specs.LineLevels.{levels}
use Rattle.bidi_lines.specs.declared.reused_levels.LineLevels.{LineLevels}
use Rattle.bidi_numbers.specs.declared.fault.Fault.{Fault}
use Rattle.bidi_numbers.specs.declared.fault.Fault.TheVariants.{UnequalLengths, CutCharacter, UnevenCharacter, NoRoom}
use Rattle.bidi_calls.specs.declared.line.CallerLine.{CallerLine}
use Rattle.bidi_numbers.specs.Faults.{fault_unless}
use Rattle.bidi_calls.specs.CallerLine.{line_fault, own_classes, own_levels, caller_line_levels}
use Rattle.bidi_numbers.specs.Numbers.{class_numbered}

-- the classes of a line's code units
abbrev pub line_classes : CallerLine → List BidiClass
line_classes l = map class_numbered (own_classes l)

-- the code units of a line of a text
abbrev pub own_units : {X : Type 0} → List X → CallerLine → List X
own_units text l = slice_range text l.start l.end

-- a line begins or ends inside a character, by the test of one index
abbrev pub cuts_character : {X : Type 0} → (List X → ℕ → Bool) → List X → CallerLine → Bool
cuts_character cuts_at text l = cuts_at text l.start || cuts_at text l.end

-- the fault of a text: there is not one entry for each code unit, or the line cuts a character
abbrev pub text_fault : {X : Type 0} → (List X → ℕ → Bool) → List X → CallerLine → Option Fault
text_fault cuts_at text l =
    option_or (fault_unless (length text == length l.levels.now) UnequalLengths)
    (fault_unless (not (cuts_character cuts_at text l)) CutCharacter)

-- the first fault of a line: of its range and its numbers, then of the text, and then of its own code units
abbrev pub fault_of_line : {X : Type 0} → (List X → ℕ → Bool) → (List X → Option Fault) → List X → CallerLine → Option Fault
fault_of_line cuts_at fault_of text l =
    option_or (line_fault l) (option_or (text_fault cuts_at text l) (fault_of (own_units text l)))

-- the classes and the levels are equal within each character
abbrev pub are_entries_per_char : (ℕ → ℕ) → List ℕ → CallerLine → Bool
are_entries_per_char len_of chars l =
    is_per_char class_test.eq len_of chars (line_classes l) && is_per_char level_test.eq len_of chars (own_levels l)

-- the same, as a condition of a call
abbrev pub HasEntriesPerChar : {encoding : Encoding} → Text encoding → CallerLine → Type 0
HasEntriesPerChar {encoding} text l = are_entries_per_char encoding.len_of text.chars l ≡ true

-- the index in the line of the character at each visual index (L2)
unfoldable pub order_of_line : (ℕ → ℕ) → List ℕ → CallerLine → List ℕ
order_of_line len_of chars l = visual_order (per_char 0 len_of chars (caller_line_levels l))

-- the fault of the room for that order
abbrev pub map_fault : (ℕ → ℕ) → List ℕ → CallerLine → ℕ → Option Fault
map_fault len_of chars l room = fault_unless (nat_le (length (order_of_line len_of chars l)) room) NoRoom

-- the code units that are written for the k-th character: its own at an even level, and those of its encoding at an odd
-- level, so that an unpaired surrogate becomes U+FFFD
abbrev pub written_units : {X : Type 0} → (ℕ → ℕ) → (ℕ → List X) → List ℕ → List X → List ℕ → ℕ → List X
written_units len_of encode chars units levels k =
    if is_odd (get_or levels k 0) then encode (get_or chars k 0)
    else slice_range units (unit_index len_of chars k) (unit_index len_of chars k + len_of (get_or chars k 0))

-- the code units of a line from left to right (L2)
unfoldable pub reordered : {X : Type 0} → (ℕ → ℕ) → (ℕ → List X) → List ℕ → List X → CallerLine → List X
reordered len_of encode chars units l =
    flat_map (written_units len_of encode chars units (per_char 0 len_of chars (caller_line_levels l)))
    (order_of_line len_of chars l)

-- the first fault of the code units of a line, and of the room for its text
abbrev pub reordered_fault : {X : Type 0} → (ℕ → ℕ) → (ℕ → List X) → List ℕ → List X → CallerLine → ℕ → Option Fault
reordered_fault len_of encode chars units l room =
    option_or (fault_unless (are_entries_per_char len_of chars l) UnevenCharacter)
    (fault_unless (nat_le (length (reordered len_of encode chars units l)) room) NoRoom)

-- of the levels of code units, those of the first code unit of each character are left
abbrev pub KeepsFirstUnits : {e : Encoding} → Text e → LineLevels → LineLevels → Type 0
KeepsFirstUnits {e} text before after = levels after ≡ per_char 0 e.len_of text.chars (levels before)
