use Rattle.bidi_base.proofs.Common.{◌≡◌, ◌∙◌, ◌<◌, ap, arith, length, map, chars, run_of, AnalysedText}
use Rattle.bidi_display.specs.LineBreaks.{lines_of, simple_break_after}
use Rattle.bidi_display.specs.Shown.{chars as chars_of, clusters, laid_out, options, Displays}
use Rattle.bidi_shown.specs.Displayed.{whole}
use Rattle.bidi_shown.specs.Paragraph.{analysed_in}
use Rattle.bidi_shown.specs.Views.{columns_in}
use Rattle.bidi_shown.proofs.BoundsLemmas.{IsLine-from, IsRangeOf-whole}
use Rattle.bidi_shown.proofs.DisplayedLemmas.{displays-whole, or_empty-none, or_empty-some, ranges-are}
use Rattle.bidi_shown.proofs.displayed.ranges_within.Goals as goal
use Rattle.bidi_shown.proofs.displayed.ranges_within.Goals.{In_ok-show, In_ok-push_lines, then-is_empty+in_ok-push, else-is_empty}

pub show-requires-clause-is_line : goal.show-requires-clause-is_line
show-requires-clause-is_line c =
    rw c.new.ensures (IsLine-from c.args.paragraph.now.text.now (record { start = 0; end = length c.args.paragraph.now.text.now }) c.requires.utf8 (IsRangeOf-whole c.args.paragraph.now.text.now c.requires.utf8))

-- the value shows the whole paragraph
displays : (c : In_ok-show)
    → Displays (columns_in c.args.view) (analysed_in c.args.paragraph.now.analysis.now (chars c.args.paragraph.now.text.now)) c.args.paragraph.now.analysis.now.level
    (whole c.args.view (analysed_in c.args.paragraph.now.analysis.now (chars c.args.paragraph.now.text.now)) c.args.paragraph.now.analysis.now.level) c.show.new.self
displays c =
    displays-whole c.args.view c.args.paragraph.now.text.now c.requires.utf8 _ _ c.args.paragraph.now.analysis.now.level c.show.new.self
    (rw (c.new.ensures, c.as_slice.ensures.value, c.as_slice-2.ensures.value) at c.in_ok-show.ensures.displays)

pub returns-clause-ranges : goal.returns-clause-ranges
returns-clause-ranges c =
    let w = (goal.at.returns-clause-ranges c).In_ok-show in
    let a : AnalysedText = analysed_in c.args.paragraph.now.analysis.now (chars c.args.paragraph.now.text.now) in
    let s = c.show.new.self in
    let are = ranges-are c.args.view a c.args.paragraph.now.analysis.now.level s (c.show.ensures.options ∙ c.requires.options) (displays w) c.args.limit in
    let lines : map run_of c.push_lines.new.out.items ≡ lines_of (options s) simple_break_after c.args.limit (chars_of s) (laid_out s).start (clusters s) =
    rw (c.new-ranges.ensures.items, c.from.ensures) at c.in_ok-push_lines.ensures.lines in
    elim c.if-is_empty.branch [
      | then-is_empty+in_ok-push w ↦
          let none : length c.push_lines.new.out.items ≡ 0 = grind arith in
          rw w.ranges-is (ap (map run_of) w.in_ok-push.ensures.items ∙ or_empty-none c.push_lines.new.out.items _ lines none ∙ are)
      | else-is_empty w ↦
          let some : 0 < length c.push_lines.new.out.items = grind arith in
          rw w.ranges-is (or_empty-some c.push_lines.new.out.items _ lines some ∙ are)
    ]
