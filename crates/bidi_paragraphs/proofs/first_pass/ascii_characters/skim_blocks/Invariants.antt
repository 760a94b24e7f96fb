use Rattle.bidi_base.proofs.Common.{◌≡◌, ℕ, ◌+◌, ◌<◌, ◌≤◌, ◌-◌, length, get_or, Some, ascii_at, IfSome}
use Rattle.bidi_paragraphs.specs.ClassSet.{has}
use Rattle.bidi_paragraphs.specs.FirstPass.{ahead, IsSkimmed}
use Rattle.bidi_paragraphs.proofs.FlagsLemmas.{AreSought}
use Rattle.bidi_paragraphs.proofs.first_pass.ascii_characters.skim_blocks.Given as goal

abbrev pub invariant-loop-next : goal.invariant-loop-next
invariant-loop-next g l =
    (l.fn.progress.at ≤ l.start)
    × IfSome l.next (λ block. (k : ℕ) → k < 16 → Some (get_or block k 0) ≡ ascii_at g.T.TextSource.encoding.len_of (g.T.TextSource.text l.text).chars (l.start + k))
    × AreSought l.sought l.stop_classes l.progress.flags
    × IsSkimmed (g.D.BidiDataSource.source l.data_source) g.T.TextSource.encoding.len_of (has l.stop_classes) (ahead g.T.TextSource.encoding.len_of (g.T.TextSource.text l.text).chars l.fn.progress.at) l.fn.progress.at l.start l.fn.classes l.classes l.fn.progress.flags l.progress.flags

abbrev pub decreases-loop-next : goal.decreases-loop-next
decreases-loop-next g l = length l.initial.classes - l.start
