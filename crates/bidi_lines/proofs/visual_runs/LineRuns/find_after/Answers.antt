use Rattle.bidi_base.proofs.Common.{◌≡◌, ap, sym, ◌∙◌, arith, length, length-map, map, run_of, level_runs, Ok, Err, Result, OnOk}
use Rattle.bidi_lines.proofs.FoundRuns.{visual_runs-whole, AreVisualRuns-from_same}
use Rattle.bidi_lines.proofs.visual_runs.LineRuns.find_after.Goals as goal

-- what holds where the call went well follows from what it gives
found : {A E P Q : Type 0} (result : Result A E) → (P → Q) → OnOk result P → OnOk result Q
found (Ok x) step given = step given
found (Err e) step given = tt

pub returns-then-count-eq1-clause-runs : goal.returns-then-count-eq1-clause-runs
returns-then-count-eq1-clause-runs c =
    let one : length (level_runs c.args.start c.args.levels.now) ≡ 1 =
    ap length (sym c.in_ok-cut_runs.ensures) ∙ length-map c.cut_runs.new.runs.items run_of ∙ grind arith in
    simp (c.in_ok-push.ensures.ok, c.clear.ensures.items, visual_runs-whole c.args.start c.args.levels.now one)

pub returns-then-count-eq1-clause-visual : goal.returns-then-count-eq1-clause-visual
returns-then-count-eq1-clause-visual c = AreVisualRuns-from_same c.args.start c.args.levels.now (map run_of c.push.new.self.items) (returns-then-count-eq1-clause-runs c)

pub returns-then-count-le-FEW_RUNS-clause-visual : goal.returns-then-count-le-FEW_RUNS-clause-visual
returns-then-count-le-FEW_RUNS-clause-visual c =
    found c.copy_visual.result (λ same. AreVisualRuns-from_same c.args.start c.args.levels.now (map run_of c.copy_visual.new.ordered.items) same) c.copy_visual.ensures.runs

pub returns-clause-visual : goal.returns-clause-visual
returns-clause-visual c =
    found c.copy_visual-2.result (λ same. AreVisualRuns-from_same c.args.start c.args.levels.now (map run_of c.copy_visual-2.new.ordered.items) same) c.copy_visual-2.ensures.runs
