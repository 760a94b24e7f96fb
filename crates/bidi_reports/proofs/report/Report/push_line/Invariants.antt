use Rattle.bidi_base.proofs.Common.{◌≡◌, ◌++◌, ◌||◌, drop, map, take, list_any, string_bytes}
use Rattle.bidi_controls.specs.FileSearch.{displayed_of}
use Rattle.bidi_reports.specs.Reports.{findings_report}
use Rattle.bidi_reports.proofs.ReportsLemmas.{is_kept}
use Rattle.bidi_reports.proofs.report.Report.push_line.Given as goal

abbrev pub invariant-loop-finding : goal.invariant-loop-finding
invariant-loop-finding l = record {
  report : string_bytes l.out
      ++ findings_report l.self.form l.different l.self.later l.found.name.now l.found.line.now (map displayed_of l.found.displayed.now) (drop l.finding-index l.found.findings.now)
      ≡ string_bytes l.fn.out
      ++ findings_report l.fn.self.form l.different l.fn.self.later l.found.name.now l.found.line.now (map displayed_of l.found.displayed.now) l.found.findings.now;
  form : l.self.form ≡ l.fn.self.form;
  later : l.self.later ≡ (l.fn.self.later || list_any (is_kept l.fn.self.form l.different) (take l.finding-index l.found.findings.now));
  notifications : string_bytes l.self.notifications ≡ string_bytes l.fn.self.notifications;
}
