use Rattle.bidi_base.proofs.Common.{◌∙◌, ◌++◌, ℕ, List, map, ap, string_bytes, chars, run_of}
use Rattle.std.proofs.lemmas.Result.{on_ok_weaker}
use Rattle.bidi_shown.proofs.ParagraphLemmas.{lines-shown}
use Rattle.bidi_shown.proofs.plain.push_plain.Goals as goal

pub returns : goal.returns
returns g c =
    let analysis = c.args.paragraph.now.analysis.now in
    let lines = lines-shown (g.D.BidiDataSource.source c.args.data_source.now) c.args.view (chars c.args.paragraph.now.text.now) analysis.classes.items analysis.levels.items analysis.level c.requires.analysed
    c.as_slice.result.now (ap (map run_of) c.as_slice.ensures.value ∙ c.in_ok-lines.ensures.lines) in
    on_ok_weaker c.push_lines.result (λ e. e ∙ ap (λ (l : List ℕ). string_bytes c.args.out.now ++ l) lines) c.push_lines.ensures
