use Rattle.bidi_base.proofs.Common.{◌∙◌}
use Rattle.std.proofs.lemmas.Result.{on_ok_weaker}
use Rattle.unicode_bidi.proofs.BasedParagraphs.{based-Follow, based-flags, based-CanWrite, based-IsAnalysisWith}
use Rattle.unicode_bidi.proofs.engine.Analyser.analyse_with_base.Goals as goal

pub write_paragraphs-written-requires-clause-paragraphs : goal.write_paragraphs-written-requires-clause-paragraphs
write_paragraphs-written-requires-clause-paragraphs g c =
    rw c.as_slice.ensures
    (based-CanWrite (g.D.BidiDataSource.source c.args.data_source.now) c.args.base c.args.rule g.T.TextSource.encoding.len_of g.T.TextSource.encoding.positive
    (g.T.TextSource.text c.args.text).chars c.find_paragraphs.new.classes c.find_paragraphs.new.self.found.paragraphs.items c.in_ok-find_paragraphs.ensures.paragraphs c.requires.low)

pub write_paragraphs-written-requires-clause-flags : goal.write_paragraphs-written-requires-clause-flags
write_paragraphs-written-requires-clause-flags g c =
    rw (c.as_slice.ensures, c.as_slice-2.ensures)
    (c.in_ok-find_paragraphs.ensures.flags
    ∙ based-flags (g.D.BidiDataSource.source c.args.data_source.now) c.args.base c.args.rule g.T.TextSource.encoding.len_of g.T.TextSource.encoding.positive
    (g.T.TextSource.text c.args.text).chars c.find_paragraphs.new.classes c.find_paragraphs.new.self.found.paragraphs.items c.in_ok-find_paragraphs.ensures.paragraphs)

pub write_paragraphs-written-requires-clause-follow : goal.write_paragraphs-written-requires-clause-follow
write_paragraphs-written-requires-clause-follow g c =
    rw c.as_slice.ensures
    (based-Follow (g.D.BidiDataSource.source c.args.data_source.now) c.args.base c.args.rule g.T.TextSource.encoding.len_of g.T.TextSource.encoding.positive
    (g.T.TextSource.text c.args.text).chars c.find_paragraphs.new.classes c.find_paragraphs.new.self.found.paragraphs.items c.in_ok-find_paragraphs.ensures.paragraphs)

pub returns-else-is_err-clause-analysis : goal.returns-else-is_err-clause-analysis
returns-else-is_err-clause-analysis g c =
    on_ok_weaker c.write_paragraphs-written.result
    (λ written.
    based-IsAnalysisWith (g.D.BidiDataSource.source c.args.data_source.now) c.args.base c.args.rule g.T.TextSource.encoding.len_of g.T.TextSource.encoding.positive
    (g.T.TextSource.text c.args.text).chars c.find_paragraphs.new.classes c.find_paragraphs.new.self.found.paragraphs.items c.in_ok-find_paragraphs.ensures.paragraphs c.requires.low
    c.write_paragraphs-written.new.levels (rw c.as_slice.ensures at written)) c.write_paragraphs-written.ensures
