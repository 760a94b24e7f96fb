-- A line with the classes and levels that the caller passes: its faults, its levels and its runs.
use Rattle.std.specs.Prelude.{◌≡◌, ℕ, ◌+◌, ◌-◌, ◌≤◌, Bool, IsTrue, ◌&&◌, ◌==◌, nat_le, List, length, map, slice_range, Option}
use Rattle.std.specs.List.{list_all}
use Rattle.std.specs.Option.{option_or}
use Rattle.bidi_base.specs.Display.{visual_runs}
use Rattle.bidi_base.specs.Line.{line_levels}
use Rattle.bidi_base.specs.Text.{text_len}
use Rattle.bidi_numbers.specs.declared.fault.Fault.{Fault}
use Rattle.bidi_numbers.specs.declared.fault.Fault.TheVariants.{UnequalLengths, BadLine, BadClass, BadLevel, NoRoom}
use Rattle.bidi_calls.specs.declared.line.CallerLine.{CallerLine}
use Rattle.bidi_numbers.specs.declared.structs.Paragraph.{Paragraph}
use Rattle.bidi_numbers.specs.Faults.{fault_unless, has_room_or_none}
use Rattle.bidi_numbers.specs.Numbers.{class_numbered, is_class, is_level}

-- a line is inside its paragraph, and the paragraph inside a text of so many code units
abbrev pub lies_in : Paragraph → ℕ → ℕ → ℕ → Bool
lies_in p start end units = nat_le p.start start && (nat_le start end && (nat_le end p.end && nat_le p.end units))

-- the numbers of the stored classes and levels of a line's code units
abbrev pub own_classes : CallerLine → List ℕ
own_classes l = slice_range l.classes.now l.start l.end

abbrev pub own_levels : CallerLine → List ℕ
own_levels l = slice_range l.levels.now l.start l.end

-- a text with these characters has as many code units as the line
abbrev pub IsAsLongAs : (ℕ → ℕ) → List ℕ → CallerLine → Type 0
IsAsLongAs len_of chars l = text_len len_of chars + l.start ≡ l.end

-- a line without a fault
pub record IsValid (l : CallerLine) : Type 0 where
  pub same_len : length l.levels.now ≡ length l.classes.now
  pub ordered : l.start ≤ l.end
  pub within : l.end ≤ length l.levels.now
  pub classes : IsTrue (list_all is_class (own_classes l))
  pub levels : IsTrue (list_all is_level (own_levels l))
  pub level : l.paragraph.now.level ≤ 126

-- the first fault of a line
abbrev pub line_fault : CallerLine → Option Fault
line_fault l =
    option_or (fault_unless (length l.classes.now == length l.levels.now) UnequalLengths)
    (option_or (fault_unless (lies_in l.paragraph.now l.start l.end (length l.levels.now)) BadLine)
    (option_or (fault_unless (list_all is_class (own_classes l)) BadClass)
    (option_or (fault_unless (list_all is_level (own_levels l)) BadLevel)
    (fault_unless (is_level l.paragraph.now.level) BadLevel))))

-- the levels of a line's code units after L1
unfoldable pub caller_line_levels : CallerLine → List ℕ
caller_line_levels l = line_levels l.paragraph.now.level (map class_numbered (own_classes l)) (own_levels l)

-- the first fault of a call for the levels of a line, with so much room for them
abbrev pub levels_fault : CallerLine → ℕ → Option Fault
levels_fault l room = option_or (line_fault l) (fault_unless (nat_le (l.end - l.start) room) NoRoom)

-- the same for the runs of a line
abbrev pub runs_fault : CallerLine → ℕ → Option Fault
runs_fault l room =
    option_or (line_fault l)
    (fault_unless (has_room_or_none (length (visual_runs l.start (caller_line_levels l))) room) NoRoom)

-- the first fault of a call for the visual order of some levels, with so much room for it
abbrev pub order_fault : List ℕ → ℕ → Option Fault
order_fault levels room =
    option_or (fault_unless (list_all is_level levels) BadLevel) (fault_unless (nat_le (length levels) room) NoRoom)
