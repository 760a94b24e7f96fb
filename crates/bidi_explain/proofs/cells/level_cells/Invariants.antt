use Rattle.bidi_base.proofs.Common.{◌≡◌, map, take, decimal, string_bytes}
use Rattle.bidi_explain.proofs.cells.level_cells.Given as goal

abbrev pub invariant-loop-level : goal.invariant-loop-level
invariant-loop-level l = map string_bytes l.cells.items ≡ map decimal (take l.level-index l.levels)
