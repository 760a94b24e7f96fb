-- The order of a line's characters from their classes and levels alone.
use Rattle.std.specs.Prelude.{ℕ, ◌-◌, ◌&&◌, nat_lt, [], List, length, Option}
use Rattle.std.specs.Option.{option_or}
use Rattle.bidi_base.specs.Texts.{one_each}
use Rattle.bidi_text.specs.ClassText.{class_chars}
use Rattle.bidi_display.specs.DisplayedLine.{clusters_of}
use Rattle.bidi_display.specs.LineChars.{line_chars}
use Rattle.bidi_display.specs.declared.options.DisplayOptions.{DisplayOptions}
use Rattle.bidi_calls.specs.DisplayParts.{own_analysed, whole_line}
use Rattle.bidi_calls.specs.Flags.{options_by}
use Rattle.bidi_calls.specs.LineText.{line_classes}
use Rattle.bidi_calls.specs.ShownOrder.{shown_order}
use Rattle.bidi_calls.specs.declared.line.CallerLine.{CallerLine}
use Rattle.bidi_numbers.specs.Faults.{fault_unless, has_room_or_none}
use Rattle.bidi_numbers.specs.declared.fault.Fault.{Fault}
use Rattle.bidi_numbers.specs.declared.fault.Fault.TheVariants.{BadFlags, NoRoom}

-- the order of a line whose characters stand for their classes alone, with these options
abbrev pub order_by_classes : CallerLine → DisplayOptions → List ℕ
order_by_classes l options =
    let own = class_chars (line_classes l) [] in
    let len_of = one_each.len_of in
    let chars = line_chars (own_analysed len_of own l) l.paragraph.now.level (whole_line len_of own) in
    shown_order options 0 chars (clusters_of options (λ cluster. 0) chars)

-- the first fault after those of the line: of the flags, and of the room for the order and for the places
abbrev pub order_room_fault : CallerLine → ℕ → ℕ → ℕ → Option Fault
order_room_fault l flags order_room places_room =
    option_or (fault_unless (nat_lt flags 2) BadFlags)
    (fault_unless (has_room_or_none (length (order_by_classes l (options_by flags))) order_room
    && has_room_or_none (l.end - l.start) places_room) NoRoom)
