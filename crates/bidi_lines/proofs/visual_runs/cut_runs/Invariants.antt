use Rattle.bidi_base.proofs.Common.{◌≡◌, ◌+◌, ◌-◌, ◌≤◌, map, ◌++◌, drop, length, run_of, level_runs}
use Rattle.bidi_lines.proofs.visual_runs.cut_runs.Given as goal

abbrev pub invariant-loop-at : goal.invariant-loop-at
invariant-loop-at l = record {
  ends : l.at ≤ length l.levels;
  runs : map run_of l.runs.items ++ level_runs (l.start + l.at) (drop l.at l.levels) ≡ level_runs l.start l.levels;
}

abbrev pub decreases-loop-at : goal.decreases-loop-at
decreases-loop-at l = length l.levels - l.at
