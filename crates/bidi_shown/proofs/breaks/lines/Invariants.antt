use Rattle.bidi_base.proofs.Common.{◌≡◌, ◌++◌, length, map, run_of, All}
use Rattle.bidi_shown.specs.Bounds.{IsRangeOf}
use Rattle.bidi_shown.specs.Breaks.{lines_of}
use Rattle.bidi_shown.specs.Clusters.{clusters_of}
use Rattle.bidi_shown.proofs.ClusterLemmas.{ArePlaced}
use Rattle.bidi_shown.proofs.breaks.lines.Given as goal

abbrev pub invariant-loop-rest : goal.invariant-loop-rest
invariant-loop-rest g l = record {
  placed : ArePlaced l.text 0 l.rest;
  shown : map run_of l.lines.items ++ lines_of l.limit l.rest ≡ lines_of l.limit (clusters_of (g.D.BidiDataSource.source l.fn.data_source) l.text);
  ranges : All (IsRangeOf l.text) l.lines.items;
}

abbrev pub decreases-loop-rest : goal.decreases-loop-rest
decreases-loop-rest g l = length l.rest
