use Rattle.bidi_base.proofs.Common.{◌∙◌, ap, sym, arith}
use Rattle.bidi_paragraphs.proofs.LowBlocks.{IsIdle-none, IsIdle-more, written-more}
use Rattle.bidi_paragraphs.proofs.first_pass.other_characters.write_low_block.Goals as goal

pub loop-i-init : goal.loop-i-init
loop-i-init g c = IsIdle-none _ _ _ _ _

pub loop-i-preserved : goal.loop-i-preserved
loop-i-preserved g c =
    let class = c.bidi_class-class.ensures ∙ ap (g.D.BidiDataSource.source c.args.data_source.now).class_of c.char_of_low.ensures in
    IsIdle-more _ _ _ _ _ _ _ c.loop-i.invariant (omega (arith, c.requires.room, c.loop-i.auto.classes, c.loop-i-test.true)) _ class (sym c.has.ensures ∙ c.if-has.false)

pub returns-then-has-clause-written : goal.returns-then-has-clause-written
returns-then-has-clause-written g c k within le =
    let class = c.bidi_class-class.ensures ∙ ap (g.D.BidiDataSource.source c.args.data_source.now).class_of c.char_of_low.ensures in
    written-more _ _ _ _ _ _ _ c.loop-i.invariant (omega (arith, c.requires.room, c.loop-i.auto.classes, c.loop-i-test.true)) _ class k le
