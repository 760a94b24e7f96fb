use Rattle.bidi_base.proofs.Common.{ℕ, take_more, flat_map_more, Range, run_of, chars}
use Rattle.bidi_shown.specs.Paragraph.{analysed_in, shown_in}
use Rattle.bidi_shown.proofs.plain.push_lines.Goals as goal

pub loop-line-preserved : goal.loop-line-preserved
loop-line-preserved c =
    let shown = λ (r : Range ℕ). shown_in (analysed_in c.args.paragraph.now.analysis.now (chars c.args.paragraph.now.text.now)) c.args.paragraph.now.analysis.now.level (run_of r) in
    rw (c.loop-line.invariant, flat_map_more shown, ← (take_more c.args.lines.now c.loop-line.line-index (record { start = 0; end = 0 }) c.loop-line-test.true)) at c.in_ok-push_line.ensures
