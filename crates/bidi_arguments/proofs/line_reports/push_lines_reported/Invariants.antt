use Rattle.bidi_base.proofs.Common.{◌≡◌, ◌++◌, ◌||◌, drop, flat_map, map, string_bytes, take}
use Rattle.std.specs.Prelude.{is_some}
use Rattle.bidi_controls.specs.FileSearch.{line_of}
use Rattle.bidi_reports.specs.Allowances.{with_more}
use Rattle.bidi_reports.specs.Allowed.{Notes}
use Rattle.bidi_arguments.specs.LineReports.{entry_of, is_any_reported, lines_report, queries_of}
use Rattle.bidi_arguments.proofs.line_reports.push_lines_reported.Given as goal

abbrev pub invariant-loop-line : goal.invariant-loop-line
invariant-loop-line l = record {
  report : string_bytes l.out
      ++ lines_report l.fn.allowance.list.entries (is_some l.fn.allowance.written) l.report.form l.report.later l.name (map line_of (drop l.line-index l.lines))
      ≡ string_bytes l.fn.out
      ++ lines_report l.fn.allowance.list.entries (is_some l.fn.allowance.written) l.fn.report.form l.fn.report.later l.name (map line_of l.lines);
  found : (l.found || is_any_reported l.fn.allowance.list.entries (is_some l.fn.allowance.written) l.name (map line_of (drop l.line-index l.lines)))
      ≡ is_any_reported l.fn.allowance.list.entries (is_some l.fn.allowance.written) l.name (map line_of l.lines);
  form : l.report.form ≡ l.fn.report.form;
  later : (l.report.later || is_any_reported l.fn.allowance.list.entries (is_some l.fn.allowance.written) l.name (map line_of (drop l.line-index l.lines)))
      ≡ (l.fn.report.later || is_any_reported l.fn.allowance.list.entries (is_some l.fn.allowance.written) l.name (map line_of l.lines));
  entries : l.allowance.list.entries ≡ l.fn.allowance.list.entries;
  writes : is_some l.allowance.written ≡ is_some l.fn.allowance.written;
  notes : Notes (flat_map (queries_of l.name) (map line_of (take l.line-index l.lines))) l.fn.allowance.list l.allowance.list;
  written : l.allowance.written
      ≡ with_more (flat_map (entry_of l.fn.allowance.list.entries l.name) (map line_of (take l.line-index l.lines))) l.fn.allowance.written;
}
