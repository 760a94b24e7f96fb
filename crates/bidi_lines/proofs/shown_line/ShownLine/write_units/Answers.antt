use Rattle.bidi_base.proofs.Common.{map, sym, ◌∙◌, run_of}
use Rattle.bidi_lines.proofs.FoundRuns.{AreVisualRuns-from_same}
use Rattle.bidi_lines.specs.ShownLine.{text_of, levels}
use Rattle.bidi_lines.proofs.WrittenRuns.{ranges_at_boundaries}
use Rattle.bidi_lines.proofs.RunLengths.{visual_runs-whole}
use Rattle.bidi_lines.proofs.ShownLines.{still_shown}
use Rattle.bidi_lines.proofs.TextOfLine.{runs_begin}
use Rattle.bidi_lines.proofs.shown_line.ShownLine.write_units.Goals as goal

pub write_runs-requires-clause-within : goal.write_runs-requires-clause-within
write_runs-requires-clause-within g c =
    let s = c.args.self.now in
    rw c.levels.ensures.result
    (runs_begin s.start (levels s) c.as_slice-runs.result.now (AreVisualRuns-from_same s.start (levels s) (map run_of c.as_slice-runs.result.now) (c.as_slice-runs.ensures ∙ s.runs_of_levels)))

pub write_runs-requires-clause-are_lines : goal.write_runs-requires-clause-are_lines
write_runs-requires-clause-are_lines g c =
    let s = c.args.self.now in
    ranges_at_boundaries g.T.TextSource.encoding.len_of (g.T.TextSource.text (text_of s)).chars c.as_slice-runs.result.now _ (c.as_slice-runs.ensures ∙ s.runs_of_levels) s.runs_of_chars

pub write_runs-requires-clause-whole : goal.write_runs-requires-clause-whole
write_runs-requires-clause-whole g c =
    let s = c.args.self.now in
    rw c.levels.ensures.result
    (visual_runs-whole s.start (levels s) c.as_slice-runs.result.now (AreVisualRuns-from_same s.start (levels s) (map run_of c.as_slice-runs.result.now) (c.as_slice-runs.ensures ∙ s.runs_of_levels)))

pub returns-else-self : goal.returns-else-self
returns-else-self g c =
    let s = c.args.self.now in
    c.copy_run.ensures ∙ sym (still_shown s g.T.LineText.encode (g.T.LineText.units_of (text_of s)) c.if-self.false)
