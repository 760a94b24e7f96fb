use Rattle.bidi_base.proofs.Common.{◌≡◌, map, length, arith, common_steps, run_of}
use Rattle.bidi_lines.proofs.FoundRuns.{visual_runs-nil, AreVisualRuns-from_same}
use Rattle.bidi_lines.proofs.visual_runs.LineRuns.find.Goals as goal

pub returns-then-is_empty-clause-runs : goal.returns-then-is_empty-clause-runs
returns-then-is_empty-clause-runs c =
    let none : length c.args.levels.now ≡ 0 = grind (arith, common_steps) in
    simp (c.clear.ensures.items, visual_runs-nil c.args.start c.args.levels.now none)

pub returns-then-is_empty-clause-visual : goal.returns-then-is_empty-clause-visual
returns-then-is_empty-clause-visual c = AreVisualRuns-from_same c.args.start c.args.levels.now (map run_of c.clear.new.self.items) (returns-then-is_empty-clause-runs c)
