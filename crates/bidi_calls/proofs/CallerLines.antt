-- A line whose classes and levels are kept.
use Rattle.bidi_base.proofs.Common.{◌≡◌, ℕ, ◌+◌, ◌-◌, List, length, map, arith, take_all, length-map, levels_of_line}
use Rattle.bidi_base.specs.declared.char_data.BidiClass.{BidiClass}
use Rattle.bidi_lines.proofs.LineInText.{length-part}
use Rattle.bidi_lines.proofs.LineLevels.{length-line_levels}
use Rattle.bidi_calls.specs.declared.line.CallerLine.{CallerLine}
use Rattle.bidi_calls.specs.CallerLine.{IsValid, own_classes, own_levels, caller_line_levels}
use Rattle.bidi_calls.specs.LineText.{own_units}
use Rattle.bidi_numbers.specs.Numbers.{class_numbered}

pub length-own_levels : (l : CallerLine) → IsValid l → length (own_levels l) ≡ l.end - l.start
length-own_levels l h = length-part l.levels.now l.start l.end h.within

pub length-own_classes : (l : CallerLine) → IsValid l → length (own_classes l) ≡ l.end - l.start
length-own_classes l h = length-part l.classes.now l.start l.end (omega (arith, h.within, h.same_len))

-- L1 along the line's own classes and levels
pub caller_line_levels-own : (l : CallerLine) → IsValid l → (level n : ℕ) (classes : List BidiClass) (levels : List ℕ) → level ≡ l.paragraph.now.level
    → classes ≡ map class_numbered (own_classes l) → levels ≡ own_levels l → n ≡ length levels → levels_of_line level classes levels 0 n ≡ caller_line_levels l
unfolding caller_line_levels
caller_line_levels-own l h level n classes levels same of_classes of_levels e = grind (arith, length-map, length-own_classes, length-own_levels, take_all)

pub length-caller_line_levels : (l : CallerLine) → IsValid l → length (caller_line_levels l) + l.start ≡ l.end
unfolding caller_line_levels
length-caller_line_levels l h = grind (arith, length-map, length-own_classes, length-line_levels, length-own_levels)

-- a line of a text has as many code units as entries
pub length-own_units : {X : Type 0} (text : List X) (l : CallerLine) → IsValid l → length text ≡ length l.levels.now → length (own_units text l) + l.start ≡ l.end
length-own_units text l valid same = omega (arith, length-part text l.start l.end (omega (arith, valid.within, same)), valid.ordered)
