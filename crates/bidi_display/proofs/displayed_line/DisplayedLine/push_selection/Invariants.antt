use Rattle.std.proofs.Common.{map}
use Rattle.bidi_base.specs.Display.{run_of}
use Rattle.bidi_display.specs.Extends.{Extends}
use Rattle.bidi_display.specs.Shown.{laid_out}
use Rattle.bidi_display.proofs.SelectionLemmas.{IsSelectedTo}
use Rattle.bidi_display.proofs.displayed_line.DisplayedLine.push_selection.Given as goal

abbrev pub invariant-loop-visual : goal.invariant-loop-visual
invariant-loop-visual l = record {
  selected : IsSelectedTo (laid_out l.self) l.range.start l.range.end (map run_of l.initial.out.items) l.visual l.open.start l.open.end (map run_of l.out.items);
  extends : Extends l.initial.out.items l.out.items;
}
