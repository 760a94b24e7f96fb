use Rattle.bidi_base.proofs.Common.{◌∙◌, ◌++◌, List, ℕ, ap, length, map, run_of, chars, string_bytes, AnalysedText}
use Rattle.std.proofs.lemmas.Result.{on_ok_weaker}
use Rattle.bidi_shown.specs.Paragraph.{analysed_in}
use Rattle.bidi_shown.proofs.BoundsLemmas.{IsLine-from, IsRangeOf-whole}
use Rattle.bidi_shown.proofs.DisplayedLemmas.{lines-None, lines-Some}
use Rattle.bidi_shown.proofs.displayed.push_displayed.Goals as goal

pub push_range-requires-clause-is_line : goal.push_range-requires-clause-is_line
push_range-requires-clause-is_line c =
    IsLine-from c.args.paragraph.now.text.now (record { start = 0; end = length c.args.paragraph.now.text.now }) c.requires.utf8 (IsRangeOf-whole c.args.paragraph.now.text.now c.requires.utf8)

pub returns-in-None : goal.returns-in-None
returns-in-None c =
    let lines = lines-None c.args.view c.args.paragraph.now.text.now c.requires.utf8 c.args.paragraph.now.analysis.now.classes.items c.args.paragraph.now.analysis.now.levels.items c.args.paragraph.now.analysis.now.level c.in-None.is in
    on_ok_weaker c.push_range.result (λ e. e ∙ ap (λ (l : List ℕ). string_bytes c.args.out.now ++ l) lines) c.push_range.ensures.text

pub returns : goal.returns
returns c =
    let a : AnalysedText = analysed_in c.args.paragraph.now.analysis.now (chars c.args.paragraph.now.text.now) in
    let lines = lines-Some c.args.view a c.args.paragraph.now.analysis.now.level c.in-Some.width c.in-Some.is c.as_slice.result.now (ap (map run_of) c.as_slice.ensures.value ∙ c.in_ok-ranges-in-Some.ensures.ranges) in
    on_ok_weaker c.push_parts.result (λ e. e ∙ ap (λ (l : List ℕ). string_bytes c.args.out.now ++ l) lines) c.push_parts.ensures
