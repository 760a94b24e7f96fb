use Rattle.std.proofs.Common.{◌≡◌, map, take}
use Rattle.bidi_reports.specs.Allowances.{finding_query, left_findings}
use Rattle.bidi_reports.specs.Allowed.{Notes}
use Rattle.bidi_reports.proofs.allowance.left_findings.Given as goal

abbrev pub invariant-loop-finding : goal.invariant-loop-finding
invariant-loop-finding l = record {
  left : l.left.items ≡ left_findings l.fn.list.entries l.line.name.now l.line.number l.digest (take l.finding-index l.line.findings.now);
  notes : Notes (map (finding_query l.line.name.now l.line.number l.digest) (take l.finding-index l.line.findings.now)) l.fn.list l.list;
  entries : l.list.entries ≡ l.fn.list.entries;
}
