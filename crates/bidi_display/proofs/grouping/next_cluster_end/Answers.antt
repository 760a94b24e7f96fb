use Rattle.bidi_base.proofs.Common.{sym, ◌∙◌}
use Rattle.bidi_display.proofs.ClusterPass.{IsCluster-hidden}
use Rattle.bidi_display.proofs.GroupingLemmas.{drop-item, dropped-by}
use Rattle.bidi_display.proofs.grouping.next_cluster_end.Goals as goal

pub returns-then-drops-clause-cluster : goal.returns-then-drops-clause-cluster
returns-then-drops-clause-cluster c options before same reads begins =
    let chars = c.args.chars.now in
    let item = c.index-chars-from.result in
    IsCluster-hidden options chars c.args.from before item c.args.joining.now (drop-item chars c.args.from item c.requires.within c.index-chars-from.is)
    (dropped-by options c.args.dropped item _ _ same c.drops.ensures c.if-drops.true) reads begins

pub returns-clause-cluster : goal.returns-clause-cluster
returns-clause-cluster c options before same reads begins =
    let chars = c.args.chars.now in
    let item = c.index-chars-from.result in
    c.cluster_end.ensures.cluster options before _ item same (drop-item chars c.args.from item c.requires.within c.index-chars-from.is)
    (sym c.drops.ensures ∙ c.if-drops.false) (c.read.ensures.state options.moves before reads)
