use Rattle.bidi_base.proofs.Common.{◌≡◌, map, take, string_bytes}
use Rattle.bidi_explain.specs.Cells.{option_name}
use Rattle.bidi_explain.proofs.cells.option_cells.Given as goal

abbrev pub invariant-loop-class : goal.invariant-loop-class
invariant-loop-class l = map string_bytes l.cells.items ≡ map option_name (take l.class-index l.classes)
