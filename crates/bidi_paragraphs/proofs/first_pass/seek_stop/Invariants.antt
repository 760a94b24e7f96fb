use Rattle.bidi_base.proofs.Common.{◌-◌, length}
use Rattle.bidi_paragraphs.specs.ClassSet.{has}
use Rattle.bidi_paragraphs.specs.FirstPass.{ahead, IsSkimmed}
use Rattle.bidi_paragraphs.proofs.first_pass.seek_stop.Given as goal

abbrev pub invariant-loop-progress : goal.invariant-loop-progress
invariant-loop-progress g l =
    IsSkimmed (g.D.BidiDataSource.source l.data_source) g.T.TextSource.encoding.len_of (has l.stop_classes) (ahead g.T.TextSource.encoding.len_of (g.T.TextSource.text l.text).chars l.fn.progress.at) l.fn.progress.at l.progress.at l.fn.classes l.classes l.fn.progress.flags l.progress.flags

abbrev pub decreases-loop-progress : goal.decreases-loop-progress
decreases-loop-progress g l = length l.initial.classes - l.progress.at
