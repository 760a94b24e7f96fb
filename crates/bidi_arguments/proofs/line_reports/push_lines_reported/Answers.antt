use Rattle.bidi_base.proofs.Common.{◌<◌, ◌∙◌, ap, arith, length}
use Rattle.std.proofs.lemmas.Grind.{common_steps}
use Rattle.std.specs.Prelude.{is_some}
use Rattle.bidi_controls.specs.FileSearch.{line_of}
use Rattle.bidi_reports.specs.Allowances.{with_more}
use Rattle.bidi_arguments.specs.LineReports.{entry_of, queries_of}
use Rattle.bidi_arguments.proofs.LineReportsLemmas.{any-more, is_some-more, line-more, notes-more, report-more, written-more}
use Rattle.bidi_arguments.proofs.line_reports.push_lines_reported.Goals as goal

pub loop-line-preserved : goal.loop-line-preserved
loop-line-preserved c =
    let old = c.loop-line.invariant in
    let e = old.entries in
    let w = old.writes in
    let step = c.in_ok-is_reported.ensures in
    let report = rw (e, w) at step.report in
    let found = rw (e, w) at step.found in
    let later = rw (e, w) at step.later in
    let written = rw e at step.written in
    let within : c.loop-line.line-index < length c.args.lines.now = omega arith in
    let more = any-more c.args.allowance.now.list.entries (is_some c.args.allowance.now.written) c.args.name.now c.args.lines.now c.loop-line.line-index c.line-item.result within c.line-item.is in
    record {
      report =
          report-more c.args.allowance.now.list.entries (is_some c.args.allowance.now.written) c.args.name.now c.args.lines.now c.loop-line.line-index c.line-item.result within c.line-item.is
          _ _ _ _ _ _ _ old.report report step.form later;
      found = more c.loop-line.found c.if-found.found _ old.found (grind (arith, common_steps, found));
      form = step.form ∙ old.form;
      later = more c.loop-line.report.later c.push_reported.new.report.later _ old.later later;
      entries = step.notes.entries ∙ e;
      writes = ap is_some step.written ∙ is_some-more _ _ ∙ w;
      notes =
          rw (line-more (queries_of c.args.name.now) c.args.lines.now c.loop-line.line-index c.line-item.result within c.line-item.is)
          (notes-more _ _ _ _ _ old.notes step.notes);
      written =
          rw (line-more (entry_of c.args.allowance.now.list.entries c.args.name.now) c.args.lines.now c.loop-line.line-index c.line-item.result within c.line-item.is)
          (written ∙ ap (with_more (entry_of c.args.allowance.now.list.entries c.args.name.now (line_of c.line-item.result))) old.written ∙ written-more _ _ c.args.allowance.now.written);
    }
