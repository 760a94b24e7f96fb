use Rattle.bidi_base.proofs.Common.{◌≡◌, map, take, string_bytes}
use Rattle.bidi_terminal.specs.CodePoints.{code_point}
use Rattle.bidi_explain.proofs.cells.code_cells.Given as goal

abbrev pub invariant-loop-c : goal.invariant-loop-c
invariant-loop-c l = map string_bytes l.cells.items ≡ map code_point (take l.c-index l.chars)
