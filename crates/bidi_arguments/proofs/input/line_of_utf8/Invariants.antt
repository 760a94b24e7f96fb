use Rattle.bidi_base.proofs.Common.{◌≡◌, length}
use Rattle.bidi_controls.specs.Decoded.{utf8_decoded}
use Rattle.bidi_controls.specs.FileLines.{file_lines_of}
use Rattle.bidi_arguments.specs.LineNames.{line_numbered}
use Rattle.bidi_arguments.proofs.input.line_of_utf8.Given as goal

abbrev pub invariant-loop-rest : goal.invariant-loop-rest
invariant-loop-rest l = line_numbered l.left (file_lines_of (utf8_decoded l.rest)) ≡ line_numbered l.fn.number (file_lines_of (utf8_decoded l.fn.bytes))

abbrev pub decreases-loop-rest : goal.decreases-loop-rest
decreases-loop-rest l = length l.rest
