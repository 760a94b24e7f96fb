use Rattle.bidi_base.proofs.Common.{◌++◌, ◌∷◌, [], string_bytes, ap, sym, ◌∙◌, map, chars, chars-nil, take_all}
use Rattle.bidi_display.specs.LineClusters.{displayed_chars}
use Rattle.bidi_display.proofs.GroupingLemmas.{chars_push, dropped-by, displayed-more, displayed-dropped}
use Rattle.bidi_display.proofs.grouping.collect_displayed.Goals.{then-not-drops+in_ok-push, else-not-drops}
use Rattle.bidi_display.proofs.grouping.collect_displayed.Goals as goal

pub loop-c-init : goal.loop-c-init
loop-c-init c options same = ap chars c.clear.ensures.bytes ∙ chars-nil

pub loop-c-preserved : goal.loop-c-preserved
loop-c-preserved c options same =
    let cluster = c.args.cluster.now in
    let item = c.c-item.result in
    elim c.if-not-drops.branch [
      | then-not-drops+in_ok-push w ↦
          let shown = dropped-by options c.args.dropped item _ _ same c.drops.ensures w.if-not-drops.true in
          ap (λ s. chars (string_bytes s)) w.out-is ∙ chars_push c.loop-c.out w.push.new.self item.char w.in_ok-push.ensures.bytes
          ∙ ap (λ cs. cs ++ item.char ∷ []) (c.loop-c.invariant options same) ∙ sym (displayed-more options cluster c.loop-c.c-index item c.loop-c-test.true c.c-item.is shown)
      | else-not-drops w ↦
          let hidden = dropped-by options c.args.dropped item _ _ same c.drops.ensures w.if-not-drops.false in
          ap (λ s. chars (string_bytes s)) w.out-is ∙ c.loop-c.invariant options same
          ∙ sym (displayed-dropped options cluster c.loop-c.c-index item c.loop-c-test.true c.c-item.is hidden)
    ]

pub returns : goal.returns
returns c options same = c.loop-c.invariant options same ∙ ap (λ cs. map (λ d. d.char) (displayed_chars options cs)) (take_all c.loop-c.c-index c.args.cluster.now c.loop-c-test.false)
