use Rattle.bidi_base.proofs.Common.{◌≡◌, map, take}
use Rattle.bidi_numbers.specs.Tables.{range_of}
use Rattle.bidi_numbers.proofs.tables.ranges_of.Given as goal

-- the rows so far
abbrev pub invariant-loop-row : goal.invariant-loop-row
invariant-loop-row l = l.ranges.items ≡ map range_of (take l.row-index l.rows)
