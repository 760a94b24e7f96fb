use Rattle.bidi_base.proofs.Common.{arith, ap, ◌∙◌, slice_range, level_runs}
use Rattle.std.proofs.lemmas.Result.{IfOk-weaker}
use Rattle.bidi_lines.specs.Analysed.{analysed as analysed_of}
use Rattle.unicode_bidi.proofs.LogicalRuns.{levels-reach, runs-are_parts}
use Rattle.unicode_bidi.proofs.logical_runs.logical_runs_of.Goals as goal

pub slice_bounds-level_runs_of-end : goal.slice_bounds-level_runs_of-end
slice_bounds-level_runs_of-end g c =
    let reach = levels-reach (analysed_of c.args.analysed.now) g.T.TextSource.encoding.positive c.args.analysed.now.levels_per_char c.args.range c.requires in
    grind (arith, reach)

pub returns : goal.returns
returns g c =
    IfOk-weaker c.level_runs_of.result _ _
    (λ v is.
    let runs = is ∙ ap (λ levels. level_runs c.args.range.start (slice_range levels c.args.range.start c.args.range.end)) c.levels.ensures.levels in
    record {
      runs = runs;
      parts = runs-are_parts (analysed_of c.args.analysed.now) g.T.TextSource.encoding.positive c.args.analysed.now.levels_per_char c.args.range c.requires v.items runs;
    })
    c.level_runs_of.ensures
