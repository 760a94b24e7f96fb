use Rattle.bidi_base.proofs.Common.{◌≡◌, ◌+◌, ◌++◌, ◌≤◌, length}
use Rattle.bidi_controls.specs.Findings.{findings_from, findings_of}
use Rattle.bidi_controls.specs.FileLines.{file_lines_of}
use Rattle.bidi_controls.proofs.check.findings_wanted.Given as goal

abbrev pub invariant-loop-rest : goal.invariant-loop-rest
invariant-loop-rest g l = record {
  few : l.lines_before + length l.rest ≤ length l.fn.chars;
  found : l.found.findings.items ++ findings_from (g.D.BidiDataSource.source l.fn.data_source) l.wanted (l.lines_before + 1) (file_lines_of l.rest)
      ≡ findings_of (g.D.BidiDataSource.source l.fn.data_source) l.wanted l.fn.chars;
}

abbrev pub decreases-loop-rest : goal.decreases-loop-rest
decreases-loop-rest g l = length l.rest
