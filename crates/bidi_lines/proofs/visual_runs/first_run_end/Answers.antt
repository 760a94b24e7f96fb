use Rattle.bidi_base.proofs.Common.{◌+◌, [], ◌∷◌, ◌∙◌, ap, sym, arith}
use Rattle.bidi_lines.proofs.FoundRuns.{visual_runs-same}
use Rattle.bidi_lines.proofs.RunsLemmas.{level_runs-more}
use Rattle.bidi_lines.proofs.visual_runs.first_run_end.Goals as goal

pub returns-clause-first : goal.returns-clause-first
returns-clause-first c start =
    let levels = c.args.levels.now in
    let step = level_runs-more start levels 0 c.run_end.result c.run_end.ensures.advances c.run_end.ensures.within c.run_end.ensures.same c.run_end.ensures.stops in
    grind (arith, step)

pub returns-clause-whole : goal.returns-clause-whole
returns-clause-whole c whole start =
    visual_runs-same start c.args.levels.now c.requires (λ p a b. c.run_end.ensures.same p a (omega (arith, whole, b))) ∙ ap (λ n. (start, start + n) ∷ []) (sym whole)
