use Rattle.bidi_base.proofs.Common.{◌≡◌, ◌≤◌, ◌-◌, ◌++◌, drop, length, map, run_of}
use Rattle.bidi_display.specs.Extends.{Extends}
use Rattle.bidi_display.specs.LineBreaks.{lines_of}
use Rattle.bidi_display.specs.Shown.{chars, clusters, laid_out, options}
use Rattle.bidi_display.proofs.displayed_line.DisplayedLine.push_lines.Given as goal

abbrev pub invariant-loop-from : goal.invariant-loop-from
invariant-loop-from g l =
    let break_after_of = g.B.LineBreaks.break_after_of l.breaks in
    record {
      within : l.from ≤ length (clusters l.self);
      lines : map run_of l.out.items ++ lines_of (options l.self) break_after_of l.limit (chars l.self) l.start (drop l.from (clusters l.self))
          ≡ map run_of l.initial.out.items ++ lines_of (options l.self) break_after_of l.limit (chars l.self) (laid_out l.self).start (clusters l.self);
      extends : Extends l.initial.out.items l.out.items;
    }

abbrev pub decreases-loop-from : goal.decreases-loop-from
decreases-loop-from g l = length (clusters l.self) - l.from
