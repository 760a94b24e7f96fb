use Rattle.bidi_base.proofs.Common.{◌≡◌, ◌-◌, length}
use Rattle.bidi_paragraphs.proofs.TextRead.{seen}
use Rattle.bidi_paragraphs.proofs.WalkSteps.{IsWalked}
use Rattle.bidi_paragraphs.proofs.first_pass.walk.Given as goal

abbrev pub invariant-loop-stop : goal.invariant-loop-stop
invariant-loop-stop g l =
    IsWalked (g.D.BidiDataSource.source l.data_source) g.T.TextSource.encoding.len_of (g.T.TextSource.text l.fn.text).chars l.rule l.fn.base_level l.at (seen l.classes l.walk) l.walk.state
    × (l.walk.base_level ≡ l.fn.base_level)

abbrev pub decreases-loop-stop : goal.decreases-loop-stop
decreases-loop-stop g l = length l.initial.classes - l.at
