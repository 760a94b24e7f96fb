use Rattle.bidi_base.proofs.Common.{◌≡◌, ◌∙◌, ℕ, List, None, length, ap, sym, arith, nil_from_length}
use Rattle.bidi_controls.proofs.FileLinesLemmas.{no_lines}
use Rattle.bidi_controls.specs.Decoded.{utf8_decoded}
use Rattle.bidi_controls.specs.FileLines.{file_lines_of}
use Rattle.bidi_arguments.specs.LineNames.{line_numbered}
use Rattle.bidi_arguments.proofs.input.line_of_utf8.Goals as goal

none-left : (left : ℕ) (rest : List ℕ) → length rest ≡ 0 → line_numbered left (file_lines_of (utf8_decoded rest)) ≡ None
none-left left rest empty = ap (line_numbered left) (nil_from_length (file_lines_of (utf8_decoded rest)) (no_lines rest empty))

pub returns : goal.returns
returns c = sym (none-left c.loop-rest.left c.loop-rest.rest.now (grind arith)) ∙ c.loop-rest.invariant
