use Rattle.bidi_base.proofs.Common.{◌≤◌, ◌-◌, length}
use Rattle.bidi_lines.proofs.LineLevels.{IsSweptTo}
use Rattle.bidi_lines.proofs.line_levels.reset_levels.Given as goal

abbrev pub invariant-loop-at : goal.invariant-loop-at
invariant-loop-at g l = record {
  swept : IsSweptTo l.para_level (g.C.ClassList.classes l.classes) l.initial.levels l.levels l.start l.before l.at;
  ends : l.at ≤ length (g.C.ClassList.classes l.classes);
}

abbrev pub decreases-loop-at : goal.decreases-loop-at
decreases-loop-at g l = length (g.C.ClassList.classes l.classes) - l.at
