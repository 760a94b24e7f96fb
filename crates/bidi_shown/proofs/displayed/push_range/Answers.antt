use Rattle.bidi_base.proofs.Common.{◌∙◌, ◌++◌, List, ℕ, append_assoc, ap, codes, string_bytes, chars}
use Rattle.bidi_display.specs.Shown.{Displays}
use Rattle.bidi_shown.specs.Paragraph.{analysed_in}
use Rattle.bidi_shown.specs.Views.{columns_in}
use Rattle.bidi_shown.proofs.DisplayedLemmas.{range-shown}
use Rattle.bidi_shown.proofs.displayed.push_range.Goals as goal
use Rattle.bidi_shown.proofs.displayed.push_range.Goals.{In_ok-show}

-- the value shows the line
displays : (c : In_ok-show)
    → Displays (columns_in c.args.view) (analysed_in c.args.paragraph.now.analysis.now (chars c.args.paragraph.now.text.now)) c.args.paragraph.now.analysis.now.level c.args.range c.show.new.self
displays c = rw (c.new.ensures, c.as_slice.ensures.value, c.as_slice-2.ensures.value) at c.in_ok-show.ensures.displays

pub returns-clause-text : goal.returns-clause-text
returns-clause-text c =
    let w = (goal.at.returns-clause-text c).In_ok-show in
    let out : List ℕ = string_bytes c.args.out.now in
    let shown = range-shown c.args.view (analysed_in c.args.paragraph.now.analysis.now (chars c.args.paragraph.now.text.now)) c.args.paragraph.now.analysis.now.level c.args.range c.show.new.self
    (c.show.ensures.options ∙ c.requires.options) (displays w) in
    c.in_ok-push_str.ensures.bytes
    ∙ ap (λ (l : List ℕ). l ++ codes "\n") c.in_ok-push_clusters.ensures
    ∙ append_assoc out _ (codes "\n")
    ∙ ap (λ (l : List ℕ). out ++ l) shown
