use Rattle.bidi_base.proofs.Common.{◌≡◌, ◌+◌, ◌-◌, ◌∷◌, drop, refl, ap, ◌∙◌, arith, rules}
use Rattle.bidi_display.proofs.ClusterPass.{IsFoundTo-start, IsFoundTo-more, IsFoundTo-end, IsFoundPast-read, IsFoundPast-simple}
use Rattle.bidi_display.proofs.GroupingLemmas.{drop-item}
use Rattle.bidi_display.proofs.grouping.find_clusters.Goals as goal

pub loop-from-init : goal.loop-from-init
loop-from-init g c =
    IsFoundTo-start c.args.options (g.W.ClusterWidth.width_of c.args.widths.now) c.args.chars.now c.new-joining.result c.reserve.new.self.items c.new-joining.ensures (search rules)

pub pass-requires : goal.pass-requires
pass-requires g c =
    let chars = c.args.chars.now in
    let end = c.in_ok-simple.simple in
    let last = c.index-chars-simple.result in
    let past = c.in_ok-simple.ensures.found c.args.options c.loop-from.joining c.loop-from.invariant in
    let back : end - 1 + 1 ≡ end = omega (arith, c.if-from-simple.true) in
    let next : drop (end - 1) chars ≡ last ∷ drop end chars =
    drop-item chars (end - 1) last (omega (arith, c.if-from-simple.true, c.in_ok-simple.ensures.within)) c.index-chars-simple.is ∙ ap (λ n. last ∷ drop n chars) back in
    IsFoundPast-simple c.args.options (g.W.ClusterWidth.width_of c.args.widths.now) chars c.loop-from.from end c.push_simple.new.column c.loop-from.joining c.push_simple.new.out.items last past
    c.if-from-simple.true next

pub loop-from-preserved-then-from-simple : goal.loop-from-preserved-then-from-simple
loop-from-preserved-then-from-simple g c =
    let chars = c.args.chars.now in
    let end = c.in_ok-simple.simple in
    let last = c.index-chars-simple.result in
    let h = c.loop-from.invariant in
    let past = c.in_ok-simple.ensures.found c.args.options c.loop-from.joining h in
    let back : end - 1 + 1 ≡ end = omega (arith, c.if-from-simple.true) in
    let next : drop (end - 1) chars ≡ last ∷ drop end chars =
    drop-item chars (end - 1) last (omega (arith, c.if-from-simple.true, c.in_ok-simple.ensures.within)) c.index-chars-simple.is ∙ ap (λ n. last ∷ drop n chars) back in
    IsFoundPast-read c.args.options (g.W.ClusterWidth.width_of c.args.widths.now) chars c.loop-from.from end c.push_simple.new.column c.loop-from.joining c.pass.new.self c.push_simple.new.out.items last past
    c.if-from-simple.true next (λ before. c.pass.ensures c.args.options.moves h.read before h.reads)

pub loop-from-preserved : goal.loop-from-preserved
loop-from-preserved g c =
    let options = c.args.options in
    let end = c.next_cluster_end-end in
    let past = c.in_ok-simple.ensures.found options c.loop-from.joining c.loop-from.invariant in
    let h = past.none (omega (arith, c.if-from-simple.false, c.in_ok-simple.ensures.advances)) in
    IsFoundTo-more options (g.W.ClusterWidth.width_of c.args.widths.now) c.args.chars.now c.loop-from.from end.result c.push_simple.new.column c.saturating_add-column.result
    c.loop-from.joining end.new.joining c.push_simple.new.out.items c.push.new.self.items c.in_ok-cluster.cluster h (end.ensures.cluster options h.read refl h.reads h.begins)
    (omega (arith, end.ensures.advances)) end.ensures.ends c.in_ok-cluster.ensures (omega arith) c.in_ok-push.ensures.items

pub returns : goal.returns
returns g c =
    IsFoundTo-end c.args.options (g.W.ClusterWidth.width_of c.args.widths.now) c.args.chars.now c.loop-from.from c.loop-from.column c.loop-from.joining c.loop-from.out.items
    c.loop-from.invariant c.loop-from-test.false
