use Rattle.bidi_base.proofs.Common.{◌≡◌, ◌<◌, ◌≤◌, drop}
use Rattle.bidi_display.specs.LineBreaks.{first_line_length, line_length_from}
use Rattle.bidi_display.specs.Shown.{chars, clusters, options}
use Rattle.bidi_display.proofs.displayed_line.DisplayedLine.line_length.Given as goal

abbrev pub invariant-loop-index : goal.invariant-loop-index
invariant-loop-index g l =
    let break_after_of = g.B.LineBreaks.break_after_of l.breaks in
    record {
      same : line_length_from (options l.self) break_after_of l.limit (chars l.self) l.index l.column l.last (drop l.index (drop l.from (clusters l.self)))
          ≡ first_line_length (options l.self) break_after_of l.limit (chars l.self) (drop l.from (clusters l.self));
      within : l.last ≤ l.index;
      begun : 0 < l.column → 0 < l.index;
    }
