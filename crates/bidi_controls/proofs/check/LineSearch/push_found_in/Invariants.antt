use Rattle.bidi_base.proofs.Common.{◌≡◌, ◌++◌, ◌-◌, ◌≤◌, length, map}
use Rattle.bidi_controls.specs.Findings.{findings_in_paragraphs}
use Rattle.bidi_controls.specs.FileSearch.{displayed_of, displayed_in_paragraphs}
use Rattle.bidi_base.specs.Paragraphs.{paragraphs_in}
use Rattle.bidi_controls.proofs.check.LineSearch.push_found_in.Given as goal

abbrev pub invariant-loop-rest : goal.invariant-loop-rest
invariant-loop-rest g l = record {
  fits : length l.rest ≤ length l.line.chars.now;
  findings : l.found.findings.items
      ++ findings_in_paragraphs (g.D.BidiDataSource.source l.fn.data_source) l.sought.wanted l.line.number (length l.line.chars.now - length l.rest)
      (paragraphs_in (g.D.BidiDataSource.source l.fn.data_source) l.rest)
      ≡ l.fn.found.findings.items
      ++ findings_in_paragraphs (g.D.BidiDataSource.source l.fn.data_source) l.sought.wanted l.line.number 0
      (paragraphs_in (g.D.BidiDataSource.source l.fn.data_source) l.line.chars.now);
  displayed : map displayed_of l.found.displayed.items
      ++ displayed_in_paragraphs (g.D.BidiDataSource.source l.fn.data_source) l.sought (length l.line.chars.now - length l.rest)
      (paragraphs_in (g.D.BidiDataSource.source l.fn.data_source) l.rest)
      ≡ map displayed_of l.fn.found.displayed.items
      ++ displayed_in_paragraphs (g.D.BidiDataSource.source l.fn.data_source) l.sought 0
      (paragraphs_in (g.D.BidiDataSource.source l.fn.data_source) l.line.chars.now);
}

abbrev pub decreases-loop-rest : goal.decreases-loop-rest
decreases-loop-rest g l = length l.rest
