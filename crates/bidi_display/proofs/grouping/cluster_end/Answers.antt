use Rattle.bidi_base.proofs.Common.{◌≡◌, ◌+◌, ◌-◌, ◌≤◌, drop, true, false, length, length-drop, length-take, sym, refl, ◌∙◌, arith}
use Rattle.bidi_display.specs.Joining.{joining_after}
use Rattle.bidi_display.specs.LineClusters.{joins}
use Rattle.bidi_display.proofs.ClusterPass.{drop-item-past, drop-next, IsCluster-done, IsCluster-end, IsReadTo-first, IsReadTo-hidden, IsReadTo-joined, IsReadTo-same}
use Rattle.bidi_display.proofs.GroupingLemmas.{dropped-by}
use Rattle.bidi_display.proofs.grouping.cluster_end.Goals.{then-not-drops+else-not-read, else-not-drops}
use Rattle.bidi_display.proofs.grouping.cluster_end.Goals as goal

pub loop-skipped-init : goal.loop-skipped-init
loop-skipped-init c = record {
  advances = omega arith;
  ends = omega arith;
  same = refl;
  read = λ options before rest d same is shown reads.
      IsReadTo-same options c.args.chars.now c.args.from before _ _ _ _ _ _ refl (omega arith) refl
      (IsReadTo-first options c.args.chars.now c.args.from before d c.args.joining.now (drop-next c.args.chars.now c.args.from d rest is) (dropped-by options c.args.dropped d _ _ same refl shown) reads);
}

pub loop-skipped-preserved : goal.loop-skipped-preserved
loop-skipped-preserved c =
    let chars = c.args.chars.now in
    let from = c.args.from in
    let at = from + 1 + c.loop-skipped.skipped in
    let item = c.c-item.result in
    let next = drop-item-past chars (from + 1) c.loop-skipped.skipped item c.loop-skipped-test.true c.c-item.is in
    let inv = c.loop-skipped.invariant in
    elim c.if-not-drops.branch [
      | then-not-drops+else-not-read w ↦ record {
        advances = omega (arith, w.end-is);
        ends = omega (arith, w.end-is);
        same = w.ahead-is ∙ sym w.joining-is;
        read = λ options before rest d same is first reads.
            let h = inv.read options before rest d same is first reads in
            let old : c.loop-skipped.ahead ≡ joining_after options.moves h.read = inv.same ∙ h.reads in
            let shown = dropped-by options c.args.dropped item _ _ same c.drops.ensures w.if-not-drops.true in
            let joined : joins options.moves h.read item ≡ true = sym (w.read.ensures.joins options.moves h.read old) ∙ w.if-not-read.false in
            IsReadTo-same options chars from before _ _ _ _ _ _ (omega (arith, w.end-is)) (omega arith) w.joining-is
            (IsReadTo-joined options chars from before c.loop-skipped.end at item c.loop-skipped.joining w.read.new.self h (omega arith) next shown joined (w.read.ensures.state options.moves h.read old));
      }
      | else-not-drops w ↦ record {
        advances = omega (arith, w.end-is);
        ends = omega (arith, w.end-is);
        same = w.ahead-is ∙ inv.same ∙ sym w.joining-is;
        read = λ options before rest d same is first reads.
            let h = inv.read options before rest d same is first reads in
            let hidden = dropped-by options c.args.dropped item _ _ same c.drops.ensures w.if-not-drops.false in
            IsReadTo-same options chars from before _ _ _ _ _ _ w.end-is (omega arith) w.joining-is
            (IsReadTo-hidden options chars from before c.loop-skipped.end at item c.loop-skipped.joining h (omega arith) next hidden);
      }
    ]

pub returns-then-not-read-clause-cluster : goal.returns-then-not-read-clause-cluster
returns-then-not-read-clause-cluster c options before rest d same is first reads =
    let chars = c.args.chars.now in
    let from = c.args.from in
    let at = from + 1 + c.loop-skipped.skipped in
    let item = c.c-item.result in
    let next = drop-item-past chars (from + 1) c.loop-skipped.skipped item c.loop-skipped-test.true c.c-item.is in
    let h = c.loop-skipped.invariant.read options before rest d same is first reads in
    let shown = dropped-by options c.args.dropped item _ _ same c.drops.ensures c.if-not-drops.true in
    let apart : joins options.moves h.read item ≡ false = sym (c.read.ensures.joins options.moves h.read (c.loop-skipped.invariant.same ∙ h.reads)) ∙ c.if-not-read.true in
    IsCluster-done options chars from before c.loop-skipped.end at item c.loop-skipped.joining h next shown apart

pub returns-after-loop-skipped-clause-cluster : goal.returns-after-loop-skipped-clause-cluster
returns-after-loop-skipped-clause-cluster c options before rest d same is first reads =
    let chars = c.args.chars.now in
    let from = c.args.from in
    let past : length chars ≤ from + 1 + c.loop-skipped.skipped =
    omega (arith, c.loop-skipped-test.false, length-take (length chars - (from + 1)) (drop (from + 1) chars), length-drop (from + 1) chars) in
    IsCluster-end options chars from before c.loop-skipped.end (from + 1 + c.loop-skipped.skipped) c.loop-skipped.joining (c.loop-skipped.invariant.read options before rest d same is first reads) past
