use Rattle.bidi_base.proofs.Common.{◌≡◌, ◌++◌, map, All}
use Rattle.unicode_segmentation.specs.Iter.{grapheme_indices_left}
use Rattle.unicode_segmentation.proofs.SegmentsLemmas.{IsPieceOf}
use Rattle.bidi_shown.specs.Clusters.{cluster_at, clusters_of}
use Rattle.bidi_shown.proofs.cluster.clusters.Given as goal

abbrev pub invariant-loop-start : goal.invariant-loop-start
invariant-loop-start g l = record {
  rest : l.clusters.items ++ map (cluster_at (g.D.BidiDataSource.source l.fn.data_source)) (grapheme_indices_left l.start-iterator) ≡ clusters_of (g.D.BidiDataSource.source l.fn.data_source) l.text;
  pieces : All (IsPieceOf l.text) (grapheme_indices_left l.start-iterator);
}
