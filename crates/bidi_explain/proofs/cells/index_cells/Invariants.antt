use Rattle.bidi_base.proofs.Common.{◌≡◌, map, decimal, string_bytes, range_with_len}
use Rattle.bidi_explain.proofs.cells.index_cells.Given as goal

abbrev pub invariant-loop-index : goal.invariant-loop-index
invariant-loop-index l = map string_bytes l.cells.items ≡ map decimal (range_with_len 0 l.index)
