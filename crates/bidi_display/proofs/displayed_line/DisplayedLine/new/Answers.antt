use Rattle.bidi_display.proofs.EdgesLemmas.{none-order, none-places, none-edges}
use Rattle.bidi_base.proofs.Common.{length}
use Rattle.bidi_display.proofs.ClusterRanges.{HaveCharsWithin-none}
use Rattle.bidi_display.proofs.WholeLine.{none-whole}
use Rattle.bidi_display.proofs.displayed_line.DisplayedLine.new.Goals as goal

pub invariant_of-result-2 : goal.invariant_of-result-2
invariant_of-result-2 c =
    let lists = c.new.result in
    let empty = c.new.ensures in
    record {
      whole = none-whole 0 lists.clusters.items empty.clusters;
      chars_within = HaveCharsWithin-none (length lists.chars.items) lists.clusters.items empty.clusters;
      order = none-order lists.clusters.items lists.order.items empty.clusters empty.order;
      places = none-places lists.order.items lists.places.items empty.order empty.places;
      edges = none-edges lists.clusters.items lists.right_edges.items empty.clusters empty.right_edges;
    }
