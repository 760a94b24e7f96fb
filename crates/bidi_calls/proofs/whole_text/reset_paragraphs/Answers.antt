use Rattle.bidi_base.proofs.Common.{arith}
use Rattle.bidi_calls.proofs.WholeTextLemmas.{all-reset, next-within}
use Rattle.bidi_calls.proofs.whole_text.reset_paragraphs.Goals as goal

pub slice_bounds-reset_levels-end : goal.slice_bounds-reset_levels-end
slice_bounds-reset_levels-end c =
    let within = next-within c.args.classes.now c.args.levels.now c.args.paragraphs.now c.requires.same_len c.loop-paragraph.paragraph-index c.loop-paragraph.levels c.paragraph-item.result
    c.loop-paragraph-test.true c.paragraph-item.is c.loop-paragraph.invariant in
    rw c.range-range.ensures (omega (arith, within, c.requires.same_len))

pub returns : goal.returns
returns c = all-reset c.args.classes.now c.args.levels.now c.args.paragraphs.now c.loop-paragraph.paragraph-index c.loop-paragraph.levels c.loop-paragraph-test.false c.loop-paragraph.invariant
