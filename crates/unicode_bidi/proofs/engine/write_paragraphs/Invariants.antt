use Rattle.unicode_bidi.specs.Engine.{unit_levels}
use Rattle.unicode_bidi.proofs.ParagraphUnits.{AreParagraphsWritten}
use Rattle.unicode_bidi.proofs.engine.write_paragraphs.Given as goal

abbrev pub invariant-loop-index : goal.invariant-loop-index
invariant-loop-index g l =
    AreParagraphsWritten (unit_levels (g.D.BidiDataSource.source l.text.data_source.now) g.T.TextSource.encoding.len_of (g.T.TextSource.text l.text.text).chars) l.initial.levels l.paragraphs l.index l.levels
