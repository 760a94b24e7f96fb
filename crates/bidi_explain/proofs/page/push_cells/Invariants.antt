use Rattle.bidi_base.proofs.Common.{◌≡◌, ◌++◌, drop, map, flat_map, string_bytes}
use Rattle.bidi_explain.specs.Pages.{cell_element}
use Rattle.bidi_explain.proofs.page.push_cells.Given as goal

abbrev pub invariant-loop-cell : goal.invariant-loop-cell
invariant-loop-cell l = string_bytes l.out ++ flat_map cell_element (map string_bytes (drop l.cell-index l.cells)) ≡ string_bytes l.fn.out ++ flat_map cell_element (map string_bytes l.cells)
