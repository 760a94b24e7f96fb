use Rattle.bidi_base.proofs.Common.{◌≡◌, map, take}
use Rattle.bidi_numbers.specs.Tables.{bracket_of}
use Rattle.bidi_numbers.proofs.tables.brackets_of.Given as goal

-- the rows so far
abbrev pub invariant-loop-row : goal.invariant-loop-row
invariant-loop-row l = l.brackets.items ≡ map bracket_of (take l.row-index l.rows)
