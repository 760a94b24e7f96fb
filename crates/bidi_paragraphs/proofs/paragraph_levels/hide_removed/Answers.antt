use Rattle.bidi_base.proofs.Common.{set, get_or, ap, ◌∙◌, arith, get_or_default, map_over_more, hidden}
use Rattle.bidi_base.specs.declared.char_data.BidiClass.TheVariants.{L}
use Rattle.bidi_paragraphs.proofs.paragraph_levels.hide_removed.Goals as goal

pub loop-class-preserved : goal.loop-class-preserved
loop-class-preserved c =
    let now = c.loop-class.class-items in
    let i = c.loop-class.class-index in
    ap (set now i) c.hidden.ensures
    ∙ map_over_more hidden _ now i (get_or now i L) c.loop-class-test.true c.loop-class.invariant (get_or_default now i L _ (omega arith))
