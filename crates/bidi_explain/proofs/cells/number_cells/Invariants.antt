use Rattle.bidi_base.proofs.Common.{◌≡◌, map, take, decimal, string_bytes}
use Rattle.bidi_explain.proofs.cells.number_cells.Given as goal

abbrev pub invariant-loop-number : goal.invariant-loop-number
invariant-loop-number l = map string_bytes l.cells.items ≡ map decimal (take l.number-index l.numbers)
