use Rattle.bidi_base.proofs.Common.{◌-◌, ◌≤◌, length}
use Rattle.bidi_paragraphs.proofs.FilledUnits.{AreFilled}
use Rattle.bidi_paragraphs.proofs.paragraph_levels.fill_removed.Given as goal

abbrev pub invariant-loop-from : goal.invariant-loop-from
invariant-loop-from l = record {
  filled : AreFilled l.fn.para_level l.classes l.initial.levels l.from l.levels;
  ends : l.from ≤ length l.classes;
}

abbrev pub decreases-loop-from : goal.decreases-loop-from
decreases-loop-from l = length l.classes - l.from
