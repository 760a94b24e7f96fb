use Rattle.bidi_base.proofs.Common.{◌≡◌, arith, map, run_of, visual_runs}
use Rattle.bidi_lines.proofs.FoundRuns.{AreVisualRuns-from_same, visual_runs-nil}
use Rattle.bidi_lines.proofs.visual_runs.visual_runs_of.Goals as goal

pub returns-then-is_empty-clause-runs : goal.returns-then-is_empty-clause-runs
returns-then-is_empty-clause-runs c = grind (arith, visual_runs-nil)

pub returns-then-is_empty-clause-visual : goal.returns-then-is_empty-clause-visual
returns-then-is_empty-clause-visual c = grind (arith, AreVisualRuns-from_same, visual_runs-nil)

pub returns-then-first-levels-clause-visual : goal.returns-then-first-levels-clause-visual
returns-then-first-levels-clause-visual c =
    let same : map run_of c.in_ok-vec.field-0.items ≡ visual_runs c.args.start c.args.levels.now = grind arith in
    AreVisualRuns-from_same c.args.start c.args.levels.now _ same
