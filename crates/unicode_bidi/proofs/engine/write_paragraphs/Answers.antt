use Rattle.bidi_base.proofs.Common.{◌∙◌, List, ℕ, get_or, arith, ap, sym, subst, get_or-map, All-get_or}
use Rattle.unicode_bidi.specs.Engine.{unit_levels, own_flags, CanWrite}
use Rattle.bidi_paragraphs.specs.declared.paragraph_flags.ParagraphFlags.{ParagraphFlags}
use Rattle.unicode_bidi.proofs.ParagraphUnits.{AreParagraphsWritten-more, length-unit_levels}
use Rattle.unicode_bidi.proofs.engine.write_paragraphs.Goals as goal

pub write_paragraph-requires-clause-paragraph : goal.write_paragraph-requires-clause-paragraph
write_paragraph-requires-clause-paragraph g c =
    let fits = CanWrite (g.D.BidiDataSource.source c.args.text.now.data_source.now) g.T.TextSource.encoding.len_of (g.T.TextSource.text c.args.text.now.text).chars c.args.text.now.original_classes.now in
    subst fits (sym c.index-paragraphs-index.is) (All-get_or fits c.args.paragraphs.now c.loop-index.index c.index-paragraphs-index.result (omega arith) c.requires.paragraphs)

pub write_paragraph-requires-clause-flags : goal.write_paragraph-requires-clause-flags
write_paragraph-requires-clause-flags g c =
    let own = own_flags (g.D.BidiDataSource.source c.args.text.now.data_source.now) g.T.TextSource.encoding.len_of (g.T.TextSource.text c.args.text.now.text).chars in
    let none : ParagraphFlags = record { seen = record { bits = 0 } } in
    ap (λ flags. get_or flags c.loop-index.index none) c.requires.flags ∙ get_or-map own c.args.paragraphs.now _ c.index-paragraphs-index.result none (omega arith) ∙ ap own (sym c.index-paragraphs-index.is)

pub loop-index-preserved : goal.loop-index-preserved
loop-index-preserved g c =
    let source = g.D.BidiDataSource.source c.args.text.now.data_source.now in
    let len = g.T.TextSource.encoding.len_of in
    let cs : List ℕ = (g.T.TextSource.text c.args.text.now.text).chars in
    let fits = CanWrite source len cs c.args.text.now.original_classes.now in
    let here : fits c.index-paragraphs-index.result = subst fits (sym c.index-paragraphs-index.is) (All-get_or fits c.args.paragraphs.now c.loop-index.index c.index-paragraphs-index.result (omega arith) c.requires.paragraphs) in
    AreParagraphsWritten-more (unit_levels source len cs) c.args.levels.now c.args.paragraphs.now c.loop-index.index c.loop-index.levels c.write_paragraph.new.levels c.index-paragraphs-index.result
    (omega arith) c.index-paragraphs-index.is here.line.ordered (length-unit_levels source len g.T.TextSource.encoding.positive cs c.index-paragraphs-index.result here.line) c.in_ok-write_paragraph.ensures c.loop-index.invariant
