use Rattle.bidi_base.proofs.Common.{◌≡◌, ◌+◌, ◌≤◌, ℕ, List, length}
use Rattle.bidi_controls.specs.Decoded.{utf8_decoded}
use Rattle.bidi_controls.specs.FileLines.{file_lines_of}
use Rattle.bidi_controls.proofs.file_lines.count_lines.Given as goal

-- there are no more lines than bytes
pub record IsCounted (bytes rest : List ℕ) (count : ℕ) : Type 0 where
  pub all : length (file_lines_of (utf8_decoded bytes)) ≡ count + length (file_lines_of (utf8_decoded rest))
  pub few : count + length rest ≤ length bytes

abbrev pub invariant-loop-rest : goal.invariant-loop-rest
invariant-loop-rest l = IsCounted l.bytes l.rest l.count

abbrev pub decreases-loop-rest : goal.decreases-loop-rest
decreases-loop-rest l = length l.rest
