use Rattle.unicode_bidi.specs.Base.{level_in_text}
use Rattle.unicode_bidi.specs.declared.base.Base.TheVariants.{AutoOr}
use Rattle.unicode_bidi.proofs.ParagraphChanges.{AreChanged}
use Rattle.unicode_bidi.proofs.base.fall_back.Given as goal

abbrev pub invariant-loop-paragraph : goal.invariant-loop-paragraph
invariant-loop-paragraph g l =
    AreChanged (level_in_text (g.D.BidiDataSource.source l.data_source) (AutoOr l.level) g.T.TextSource.encoding.len_of (g.T.TextSource.text l.text).chars)
    l.initial.paragraphs l.paragraph-index l.paragraphs
