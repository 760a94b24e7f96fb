use Rattle.bidi_base.proofs.Common.{◌-◌}
use Rattle.bidi_paragraphs.specs.ClassSet.{has}
use Rattle.bidi_paragraphs.specs.FirstPass.{ahead, IsSkimmed}
use Rattle.bidi_paragraphs.proofs.first_pass.other_characters.read_in_place.Given as goal

abbrev pub invariant-loop-start : goal.invariant-loop-start
invariant-loop-start g l =
    IsSkimmed (g.D.BidiDataSource.source l.data_source) g.T.TextSource.encoding.len_of (has l.sought) (ahead g.T.TextSource.encoding.len_of (g.T.TextSource.text l.text).chars l.progress.at) l.progress.at l.start l.fn.classes l.classes l.progress.flags l.progress.flags

abbrev pub decreases-loop-start : goal.decreases-loop-start
decreases-loop-start g l = l.limit - l.start
