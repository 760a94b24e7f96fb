use Rattle.bidi_base.proofs.Common.{◌≡◌, arith, ap, map, sym, ◌∙◌}
use Rattle.bidi_controls.specs.FileSearch.{displayed_of}
use Rattle.bidi_reports.specs.Digests.{digest_for}
use Rattle.bidi_reports.specs.declared.form.Form.{Form}
use Rattle.bidi_reports.proofs.ReportsLemmas.{report-more, report-left_out, report-end, later-kept, later-left_out, later-end}
use Rattle.bidi_reports.proofs.report.Report.push_line.Goals as goal

pub loop-finding-preserved-then-is_left_out : goal.loop-finding-preserved-then-is_left_out
loop-finding-preserved-then-is_left_out c =
    let l = c.loop-finding in
    let found = c.args.found.now in
    record {
      report = report-left_out l.self.form c.differs-different.result found.name.now found.line.now (map displayed_of found.displayed.now) found.findings.now
          l.self.later l.finding-index _ _ _ (omega arith) (sym c.is_left_out.ensures ∙ c.if-is_left_out.true) l.invariant.report;
      form = l.invariant.form;
      later = later-left_out c.args.self.now.form l.self.form c.differs-different.result found.findings.now l.finding-index _ l.self.later c.args.self.now.later (omega arith)
          l.invariant.form (sym c.is_left_out.ensures ∙ c.if-is_left_out.true) l.invariant.later;
      notifications = l.invariant.notifications;
    }

pub loop-finding-preserved : goal.loop-finding-preserved
loop-finding-preserved c =
    let l = c.loop-finding in
    let found = c.args.found.now in
    let reported = c.in_ok-push_finding.ensures in
    let same : c.as_str.result.now ≡ digest_for l.self.form found.line.now =
    c.as_str.ensures.value ∙ c.in_ok-digest.ensures ∙ ap (λ (form : Form). digest_for form found.line.now) (sym l.invariant.form) in
    record {
      report = rw (reported.form, reported.later)
          (report-more l.self.form c.differs-different.result found.name.now found.line.now (map displayed_of found.displayed.now) found.findings.now
          l.self.later l.finding-index _ c.as_str.result.now _ _ _ (omega arith) (sym c.is_left_out.ensures ∙ c.if-is_left_out.false) same l.invariant.report reported.report);
      form = reported.form ∙ l.invariant.form;
      later = later-kept c.args.self.now.form l.self.form c.differs-different.result found.findings.now l.finding-index _ _ c.args.self.now.later (omega arith)
          l.invariant.form (sym c.is_left_out.ensures ∙ c.if-is_left_out.false) reported.later;
      notifications = reported.notifications ∙ l.invariant.notifications;
    }

pub returns-clause-report : goal.returns-clause-report
returns-clause-report c =
    let l = c.loop-finding in
    rw (← c.differs-different.ensures)
    (report-end l.self.form c.differs-different.result c.args.found.now.name.now c.args.found.now.line.now (map displayed_of c.args.found.now.displayed.now) c.args.found.now.findings.now
    l.self.later l.finding-index _ _ (omega arith) l.invariant.report)

pub returns-clause-later : goal.returns-clause-later
returns-clause-later c =
    let l = c.loop-finding in
    later-end c.args.self.now.form c.differs-different.result c.args.found.now.findings.now l.finding-index l.self.later c.args.self.now.later (omega arith)
    (sym c.differs-different.ensures) l.invariant.later
