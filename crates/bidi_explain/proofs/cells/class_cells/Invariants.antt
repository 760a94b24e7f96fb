use Rattle.bidi_base.proofs.Common.{◌≡◌, map, take, string_bytes}
use Rattle.bidi_explain.specs.Cells.{class_name}
use Rattle.bidi_explain.proofs.cells.class_cells.Given as goal

abbrev pub invariant-loop-class : goal.invariant-loop-class
invariant-loop-class l = map string_bytes l.cells.items ≡ map class_name (take l.class-index l.classes)
