use Rattle.bidi_base.proofs.Common.{◌≡◌, ◌++◌, map, zip, drop, string_bytes}
use Rattle.bidi_explain.specs.Cells.{glyph}
use Rattle.bidi_explain.proofs.cells.glyph_cells.Given as goal

abbrev pub invariant-loop-at : goal.invariant-loop-at
invariant-loop-at l = map string_bytes l.cells.items ++ map (λ e. glyph e.0 e.1) (zip (drop l.at l.classes) (drop l.at l.chars)) ≡ map (λ e. glyph e.0 e.1) (zip l.classes l.chars)
