use Rattle.bidi_base.proofs.Common.{arith}
use Rattle.bidi_lines.proofs.LineInText.{length-levels_with_line, slice_range-levels_with_line}
use Rattle.bidi_lines.proofs.visual_runs.levels_and_runs.Goals as goal

pub slice_bounds-visual_runs_of-end : goal.slice_bounds-visual_runs_of-end
slice_bounds-visual_runs_of-end c = grind (arith, length-levels_with_line)

pub returns-clause-runs : goal.returns-clause-runs
returns-clause-runs c = grind (arith, slice_range-levels_with_line)

pub returns-clause-visual : goal.returns-clause-visual
returns-clause-visual c = grind (arith, slice_range-levels_with_line)
