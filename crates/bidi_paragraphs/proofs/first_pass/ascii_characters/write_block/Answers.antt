use Rattle.bidi_base.proofs.Common.{◌≡◌, ◌∙◌, ap, sym, arith}
use Rattle.bidi_paragraphs.proofs.AsciiBlocks.{IsWritten-none, IsWritten-more}
use Rattle.bidi_paragraphs.proofs.first_pass.ascii_characters.write_block.Goals as goal

pub loop-i-init : goal.loop-i-init
loop-i-init g c = IsWritten-none _ _ _ _

pub loop-i-preserved : goal.loop-i-preserved
loop-i-preserved g c =
    let source = g.D.BidiDataSource.source c.args.data_source.now in
    let class = c.bidi_class-class.ensures ∙ ap source.class_of c.from.ensures in
    let more = IsWritten-more _ _ _ _ _ _ _ c.loop-i.invariant (omega (arith, c.requires, c.loop-i.auto.classes, c.loop-i-test.true)) _ class in
    rw (sym c.with-found.ensures) at more

pub returns : goal.returns
returns g c =
    let all : c.loop-i.i ≡ 16 = omega (arith, c.loop-i-test.false) in
    let h = rw all at c.loop-i.invariant in
    record { outside = h.kept; written = h.written; found = h.found_is }
