use Rattle.bidi_base.proofs.Common.{◌≡◌, drop, map}
use Rattle.bidi_controls.specs.FileSearch.{displayed_of}
use Rattle.bidi_reports.specs.Reports.{displayed_at}
use Rattle.bidi_reports.proofs.report.displayed_at.Given as goal

abbrev pub invariant-loop-paragraph : goal.invariant-loop-paragraph
invariant-loop-paragraph l =
    displayed_at l.column (map displayed_of (drop l.paragraph-index l.displayed)) ≡ displayed_at l.fn.column (map displayed_of l.fn.displayed)
