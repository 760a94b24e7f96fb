use Rattle.bidi_base.proofs.Common.{append_assoc, arith, map-append}
use Rattle.bidi_lines.proofs.RunsLemmas.{level_runs-more}
use Rattle.bidi_lines.proofs.visual_runs.cut_runs.Goals as goal

pub loop-at-preserved : goal.loop-at-preserved
loop-at-preserved c =
    let step = level_runs-more c.args.start c.args.levels.now c.loop-at.at c.run_end-end.result c.run_end-end.ensures.advances c.run_end-end.ensures.within c.run_end-end.ensures.same c.run_end-end.ensures.stops in
    grind (arith, step, map-append, append_assoc)
