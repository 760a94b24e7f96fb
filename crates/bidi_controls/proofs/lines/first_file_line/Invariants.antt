use Rattle.bidi_base.proofs.Common.{◌≡◌, ◌-◌, ◌≤◌, true, length, take}
use Rattle.bidi_controls.specs.FileLines.{ends_file_line}
use Rattle.bidi_controls.specs.NoControls.{HaveNoControls}
use Rattle.bidi_controls.proofs.LinesLemmas.{IsUnbroken}
use Rattle.bidi_controls.proofs.lines.first_file_line.Given as goal

abbrev pub invariant-loop-at : goal.invariant-loop-at
invariant-loop-at g l = record {
  ends : l.at ≤ length l.chars;
  unbroken : IsUnbroken ends_file_line l.chars l.at;
  without_controls : l.has_no_controls ≡ true → HaveNoControls (g.D.BidiDataSource.source l.data_source) (take l.at l.chars);
}

abbrev pub decreases-loop-at : goal.decreases-loop-at
decreases-loop-at g l = length l.chars - l.at
