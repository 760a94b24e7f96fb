use Rattle.bidi_base.proofs.Common.{◌≡◌, ◌∙◌, ap, arith, length, levels_of_line, visual_runs, IfOk-weaker}
use Rattle.bidi_lines.specs.LineLevels.{levels as levels_in}
use Rattle.bidi_lines.specs.Analysed.{analysed}
use Rattle.bidi_lines.proofs.LineByLevels.{stored-runs}
use Rattle.bidi_lines.proofs.StoredLine.{same_len, within, of_line}
use Rattle.bidi_lines.proofs.analysed.Analysed.line_runs.Goals as goal

pub slice_bounds-classes-end : goal.slice_bounds-classes-end
slice_bounds-classes-end g c = grind (arith, same_len, within)

pub slice_bounds-show-end : goal.slice_bounds-show-end
slice_bounds-show-end g c = grind (arith, within)

pub visual_runs_of-requires : goal.visual_runs_of-requires
visual_runs_of-requires g c =
    let a = c.args.self.now in
    let is : levels_in c.show.new.self ≡ levels_of_line c.args.para_level (analysed a).classes (analysed a).levels c.args.line.start c.args.line.end = grind arith in
    let levels = of_line g.T.TextSource.encoding.len_of g.T.TextSource.encoding.positive (g.T.TextSource.text a.text).chars c.args.para_level _ _ c.args.line a.classes_per_char a.levels_per_char c.requires _ is in
    omega (arith, levels.one_per_unit, ap length c.as_slice.ensures)

pub returns : goal.returns
returns g c =
    let a = c.args.self.now in
    let is : levels_in c.show.new.self ≡ levels_of_line c.args.para_level (analysed a).classes (analysed a).levels c.args.line.start c.args.line.end = grind arith in
    IfOk-weaker c.visual_runs_of.result _ _
    (λ v e. stored-runs _ g.T.TextSource.encoding.positive _ c.args.para_level _ _ c.args.line a.classes_per_char a.levels_per_char c.requires _ (e ∙ ap (visual_runs c.args.line.start) (c.as_slice.ensures ∙ is)))
    c.visual_runs_of.ensures.runs
