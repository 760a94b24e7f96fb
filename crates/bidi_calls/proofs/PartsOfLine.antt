-- Everything about a line: how much room it needs.
use Rattle.bidi_base.proofs.Common.{◌≡◌, ℕ, ◌&&◌, Bool, List, length, refl, ◌∙◌, per_char}
use Rattle.bidi_base.proofs.PerUnit.{length-per_char}
use Rattle.bidi_lines.proofs.RunLengths.{length-visual_order}
use Rattle.bidi_calls.specs.declared.line.CallerLine.{CallerLine}
use Rattle.bidi_calls.specs.declared.buffers.LineBuffers.{LineBuffers}
use Rattle.bidi_calls.specs.LineParts.{line_parts, run_structs, room_fault}
use Rattle.bidi_calls.specs.CallerLine.{caller_line_levels}
use Rattle.bidi_calls.specs.LineText.{order_of_line}
use Rattle.bidi_numbers.specs.Faults.{fault_unless, has_room_or_none}
use Rattle.bidi_numbers.specs.declared.fault.Fault.TheVariants.{NoRoom}

-- a line has as many entries in its order as it has characters
pub length-order : (len_of : ℕ → ℕ) (chars : List ℕ) (l : CallerLine) → length (order_of_line len_of chars l) ≡ length chars
unfolding order_of_line
length-order len_of chars l = length-visual_order (per_char 0 len_of chars (caller_line_levels l)) ∙ length-per_char 0 len_of chars (caller_line_levels l)

-- what the call reports of the room, by the lengths that it finds
pub reported-room : {X : Type 0} (len_of : ℕ → ℕ) (chars : List ℕ) (l : CallerLine) (text : List X) (before : LineBuffers X) (units runs many : ℕ) (fits : Bool)
    → length (caller_line_levels l) ≡ units → length (run_structs l) ≡ runs → length text ≡ units → many ≡ length chars
    → fits ≡ (has_room_or_none units (length before.levels.now)
    && (has_room_or_none runs (length before.runs.now)
    && (has_room_or_none many (length before.order.now) && has_room_or_none units (length before.text.now))))
    → room_fault (line_parts len_of chars l text) before ≡ fault_unless fits NoRoom
reported-room len_of chars l text before units runs many fits of_levels of_runs of_text of_chars e = simp (of_levels, of_runs, of_text, length-order len_of chars l, ← of_chars, e) refl
