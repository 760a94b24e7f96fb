use Rattle.bidi_base.proofs.Common.{◌≡◌, ◌≤◌, length, take}
use Rattle.bidi_display.specs.LineBreaks.{shown_length}
use Rattle.bidi_display.specs.Shown.{chars, clusters}
use Rattle.bidi_display.proofs.displayed_line.DisplayedLine.shown_length.Given as goal

abbrev pub invariant-loop-count : goal.invariant-loop-count
invariant-loop-count l = record {
  within : l.count ≤ length (clusters l.self);
  same : shown_length (chars l.self) (take l.count (clusters l.self)) ≡ shown_length (chars l.self) (clusters l.self);
}

abbrev pub decreases-loop-count : goal.decreases-loop-count
decreases-loop-count l = l.count
