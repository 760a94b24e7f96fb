use Rattle.bidi_base.proofs.Common.{◌-◌, length}
use Rattle.bidi_display.specs.Grouping.{IsFoundTo}
use Rattle.bidi_display.proofs.grouping.find_clusters.Given as goal

abbrev pub invariant-loop-from : goal.invariant-loop-from
invariant-loop-from g l = IsFoundTo l.options (g.W.ClusterWidth.width_of l.widths) l.chars l.from l.column l.joining l.out.items

abbrev pub decreases-loop-from : goal.decreases-loop-from
decreases-loop-from g l = length l.chars - l.from
