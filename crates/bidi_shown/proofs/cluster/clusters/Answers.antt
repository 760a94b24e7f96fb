use Rattle.bidi_base.proofs.Common.{true, arith, append_assoc}
use Rattle.std.proofs.lemmas.List.Elements.{All-rest}
use Rattle.unicode_segmentation.specs.Grapheme.{is_grapheme_break}
use Rattle.unicode_segmentation.proofs.SegmentsLemmas.{IsPieceOf, All-IsPieceOf}
use Rattle.bidi_shown.specs.Clusters.{clusters_of}
use Rattle.bidi_shown.proofs.cluster.clusters.Goals as goal

pub loop-start-init : goal.loop-start-init
unfolding clusters_of
loop-start-init g c = record {
  rest = simp (c.new-clusters.ensures.items, c.into_iter-start-iterator.ensures.into_iter_gives, c.grapheme_indices-start-items.ensures.left);
  pieces = rw (c.into_iter-start-iterator.ensures.into_iter_gives, c.grapheme_indices-start-items.ensures.left) (All-IsPieceOf (is_grapheme_break true) c.args.text.now c.utf8.text);
}

pub loop-start-preserved : goal.loop-start-preserved
loop-start-preserved g c = record {
  rest = grind (arith, c.in-Some.ensures.steps, append_assoc);
  pieces = All-rest (IsPieceOf c.args.text.now) _ _ _ c.in-Some.ensures.steps c.loop-start.invariant.pieces;
}
