use Rattle.bidi_base.proofs.Common.{◌≡◌, ◌-◌}
use Rattle.bidi_base.specs.Texts.{text_len}
use Rattle.bidi_display.specs.ClusterWalk.{IsReadTo}
use Rattle.bidi_display.proofs.clusters.ClustersIterator.next.Given as goal

abbrev pub invariant-chars : goal.invariant-chars
invariant-chars g l = record { read : IsReadTo (g.T.TextSource.text l.text) l.start l.end l.state; same : l.at ≡ l.end }

abbrev pub decreases-chars : goal.decreases-chars
decreases-chars g l = text_len (g.T.TextSource.text l.text) - l.end
