use Rattle.bidi_base.proofs.Common.{◌∙◌, ◌++◌, ℕ, ap, string_bytes, chars, Range, AnalysedText}
use Rattle.std.proofs.lemmas.Result.{on_ok_weaker}
use Rattle.bidi_display.specs.Shown.{Displays}
use Rattle.bidi_shown.specs.Displayed.{displayed_range}
use Rattle.bidi_shown.specs.Paragraph.{analysed_in}
use Rattle.bidi_shown.specs.Views.{columns_in}
use Rattle.bidi_shown.proofs.DisplayedLemmas.{part-is}
use Rattle.bidi_shown.proofs.displayed.push_part.Goals as goal
use Rattle.bidi_shown.proofs.displayed.push_part.Goals.{In_ok-show}

-- the value shows the line
displays : (c : In_ok-show)
    → Displays (columns_in c.args.view) (analysed_in c.args.paragraph.now.analysis.now (chars c.args.paragraph.now.text.now)) c.args.paragraph.now.analysis.now.level c.args.range.now c.show.new.self
displays c = rw (c.new.ensures, c.as_slice.ensures.value, c.as_slice-2.ensures.value) at c.in_ok-show.ensures.displays

pub returns-clause-text : goal.returns-clause-text
returns-clause-text c =
    let w = (goal.at.returns-clause-text c).In_ok-show in
    let a : AnalysedText = analysed_in c.args.paragraph.now.analysis.now (chars c.args.paragraph.now.text.now) in
    let level : ℕ = c.args.paragraph.now.analysis.now.level in
    let part = part-is c.args.view a level c.args.range.now c.show.new.self (c.show.ensures.options ∙ c.requires.options) (displays w) c.shown_part-part.result c.shown_part-part.ensures.start c.shown_part-part.ensures.end in
    on_ok_weaker c.push_range.result (λ e. e ∙ ap (λ (r : Range ℕ). string_bytes c.args.out.now ++ displayed_range c.args.view a level r) part) c.push_range.ensures.text
