use Rattle.bidi_base.proofs.Common.{◌-◌, drop, length}
use Rattle.bidi_numbers.specs.Tables.{HasBrackets}
use Rattle.bidi_numbers.proofs.tables.brackets_by_char.Given as goal

-- the map has the brackets of the rows at the end
abbrev pub invariant-loop-done : goal.invariant-loop-done
invariant-loop-done l = HasBrackets (drop (length l.rows - l.done) l.rows) l.map
