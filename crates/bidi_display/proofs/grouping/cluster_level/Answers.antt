use Rattle.bidi_base.proofs.Common.{ap, sym, ◌∙◌, drop_all}
use Rattle.bidi_display.specs.LineClusters.{level_char}
use Rattle.bidi_display.proofs.GroupingLemmas.{drop-item, dropped-by, level_char-dropped, level_char-removed, level_char-kept, cluster_level-found, cluster_level-none}
use Rattle.bidi_display.proofs.grouping.cluster_level.Goals.{else-not-drops-via-then-not-drops+else-not-is_removed, else-not-drops-via-else-not-drops}
use Rattle.bidi_display.proofs.grouping.cluster_level.Goals as goal

pub returns-then-not-is_removed : goal.returns-then-not-is_removed
returns-then-not-is_removed c options same =
    let cluster = c.args.cluster.now in
    let item = c.c-item.result in
    let next = drop-item cluster c.loop-c.c-index item c.loop-c-test.true c.c-item.is in
    let shown = dropped-by options c.args.dropped item _ _ same c.drops.ensures c.if-not-drops.true in
    cluster_level-found options cluster item (c.loop-c.invariant options same ∙ ap (level_char options) next ∙ level_char-kept options _ item shown (sym c.is_removed.ensures ∙ c.if-not-is_removed.true))

pub loop-c-preserved : goal.loop-c-preserved
loop-c-preserved c options same =
    let cluster = c.args.cluster.now in
    let item = c.c-item.result in
    let next = drop-item cluster c.loop-c.c-index item c.loop-c-test.true c.c-item.is in
    c.loop-c.invariant options same ∙ ap (level_char options) next ∙ elim c.else-not-drops.branch [
      | else-not-drops-via-then-not-drops+else-not-is_removed w ↦
          let shown = dropped-by options c.args.dropped item _ _ same c.drops.ensures w.if-not-drops.true in
          level_char-removed options _ item shown (sym w.is_removed.ensures ∙ w.if-not-is_removed.false)
      | else-not-drops-via-else-not-drops w ↦ level_char-dropped options _ item (dropped-by options c.args.dropped item _ _ same c.drops.ensures w.if-not-drops.false)
    ]

pub returns : goal.returns
returns c options same =
    let cluster = c.args.cluster.now in
    cluster_level-none options cluster c.index-cluster-0.result c.requires (c.loop-c.invariant options same ∙ ap (level_char options) (drop_all c.loop-c.c-index cluster c.loop-c-test.false))
