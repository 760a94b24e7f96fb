use Rattle.bidi_base.proofs.Common.{◌-◌, ◌≤◌, length, cr_lf_together}
use Rattle.bidi_controls.proofs.LinesLemmas.{IsUnbroken}
use Rattle.bidi_controls.proofs.lines.first_paragraph_len.Given as goal

abbrev pub invariant-loop-at : goal.invariant-loop-at
invariant-loop-at g l = record {
  ends : l.at ≤ length l.chars;
  unbroken : IsUnbroken (cr_lf_together (g.D.BidiDataSource.source l.data_source)) l.chars l.at;
}

abbrev pub decreases-loop-at : goal.decreases-loop-at
decreases-loop-at g l = length l.chars - l.at
