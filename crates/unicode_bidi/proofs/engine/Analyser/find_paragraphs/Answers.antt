use Rattle.bidi_base.proofs.Common.{List, ℕ}
use Rattle.bidi_laws.proofs.ParagraphsLemmas.{pieces_by-joined}
use Rattle.unicode_bidi.specs.Base.{fixed_level}
use Rattle.unicode_bidi.proofs.BasedParagraphs.{based-AreParagraphsWith}
use Rattle.unicode_bidi.proofs.ParagraphUnits.{paragraphs-lines, paragraphs-level_by}
use Rattle.unicode_bidi.proofs.engine.Analyser.find_paragraphs.Goals as goal

pub apply_base-requires-clause-lines : goal.apply_base-requires-clause-lines
apply_base-requires-clause-lines g c =
    let source = g.D.BidiDataSource.source c.args.data_source.now in
    let cs : List ℕ = (g.T.TextSource.text c.args.text).chars in
    paragraphs-lines source g.T.TextSource.encoding.len_of g.T.TextSource.encoding.positive cs _ (pieces_by-joined c.args.rule source cs) c.in_ok-found.found.paragraphs.items c.in_ok-found.ensures.paragraphs.ranges

pub apply_base-requires-clause-levels : goal.apply_base-requires-clause-levels
apply_base-requires-clause-levels g c =
    let source = g.D.BidiDataSource.source c.args.data_source.now in
    let cs : List ℕ = (g.T.TextSource.text c.args.text).chars in
    paragraphs-level_by source g.T.TextSource.encoding.len_of g.T.TextSource.encoding.positive cs _ (pieces_by-joined c.args.rule source cs) c.in_ok-found.found.paragraphs.items c.in_ok-found.ensures.paragraphs.ranges
    (fixed_level c.args.base) (rw c.fixed_level-fixed.ensures at c.in_ok-found.ensures.paragraphs.para_levels)

pub returns-clause-paragraphs : goal.returns-clause-paragraphs
returns-clause-paragraphs g c =
    let source = g.D.BidiDataSource.source c.args.data_source.now in
    let cs : List ℕ = (g.T.TextSource.text c.args.text).chars in
    based-AreParagraphsWith source c.args.base c.args.rule c.fixed_level-fixed.result g.T.TextSource.encoding.len_of g.T.TextSource.encoding.positive cs c.walk.new.classes
    c.in_ok-found.found.paragraphs.items c.apply_base.new.found.paragraphs.items c.in_ok-found.ensures.paragraphs c.apply_base.ensures.ranges c.apply_base.ensures.levels
