use Rattle.bidi_base.proofs.Common.{◌∙◌, ◌++◌, ℕ, List, None, [], ◌∷◌, ap, arith, string_bytes, chars, len_utf8, text_len, IsAnalysis}
use Rattle.std.proofs.lemmas.Result.{on_ok_weaker}
use Rattle.bidi_terminal.specs.Bases.{level_of_base}
use Rattle.bidi_shown.specs.Paragraph.{analysed_in}
use Rattle.bidi_shown.proofs.DisplayedLemmas.{paragraph-displayed, shown-displayed, shown-plain}
use Rattle.bidi_shown.proofs.paragraph.push_paragraph.Given.{Over}
use Rattle.bidi_shown.proofs.paragraph.push_paragraph.Goals as goal
use Rattle.bidi_shown.proofs.paragraph.push_paragraph.Goals.{In_ok-find}

-- the text is analysed as one paragraph
alone : (g : Over) (c : In_ok-find g) → IsAnalysis (g.D.BidiDataSource.source c.args.data_source.now) (level_of_base c.args.view.base) None
    (analysed_in c.find.new.self (chars c.args.text.now)) ((0, text_len len_utf8 (chars c.args.text.now)) ∷ []) (c.find.new.self.level ∷ [])
alone g c = grind arith

pub returns-then-view : goal.returns-then-view
returns-then-view g c =
    let shown = shown-plain (g.D.BidiDataSource.source c.args.data_source.now) c.args.view (chars c.args.text.now) c.if-view.true in
    on_ok_weaker c.push_plain.result (λ e. e ∙ ap (λ (l : List ℕ). string_bytes c.args.out.now ++ l) shown) c.push_plain.ensures

pub returns-else-view : goal.returns-else-view
returns-else-view g c =
    let source = g.D.BidiDataSource.source c.args.data_source.now in
    let own : List ℕ = chars c.args.text.now in
    let analysis = c.find.new.self in
    let h = alone g (goal.at.returns-else-view g c).In_ok-find in
    let shown = paragraph-displayed source c.args.view own analysis.classes.items analysis.levels.items analysis.level h ∙ shown-displayed source c.args.view own c.if-view.false in
    on_ok_weaker c.push_displayed.result (λ e. e ∙ ap (λ (l : List ℕ). string_bytes c.args.out.now ++ l) shown) c.push_displayed.ensures
