use Rattle.bidi_base.proofs.Common.{◌≡◌, ◌+◌, true, drop, sym, ap, ◌∙◌, arith, nat_tests}
use Rattle.bidi_display.specs.Joining.{begins_simple}
use Rattle.bidi_display.proofs.ClusterPass.{IsFoundPast-more, IsFoundPast-none, simple-item}
use Rattle.bidi_display.proofs.GroupingLemmas.{drop-item}
use Rattle.bidi_display.proofs.grouping.push_simple.Goals as goal

pub loop-simple-init : goal.loop-simple-init
loop-simple-init g c = record {
  advances = omega arith;
  within = omega (arith, c.requires);
  inside = λ _. c.requires;
  simple = λ e d is. simple-item c.args.chars.now c.args.from c.index-chars-at.result d c.requires c.index-chars-at.is is (sym c.is_simple-simple.ensures ∙ e);
  found = λ options joining start. IsFoundPast-none options (g.W.ClusterWidth.width_of c.args.widths.now) c.args.chars.now c.args.from c.args.column.now joining c.args.out.now.items start;
}

pub loop-simple-preserved : goal.loop-simple-preserved
loop-simple-preserved g c =
    let chars = c.args.chars.now in
    let at = c.loop-simple.at in
    let item = c.index-chars-at-in-loop-simple.result in
    let inv = c.loop-simple.invariant in
    let within = inv.inside c.loop-simple-test.true in
    let next = drop-item chars at item within c.index-chars-at-in-loop-simple.is in
    let simple = inv.simple c.loop-simple-test.true item c.index-chars-at-in-loop-simple.is in
    let follows : begins_simple (drop (at + 1) chars) ≡ true = sym c.next_is_simple.ensures ∙ c.if-next_is_simple.true in
    record {
      advances = omega (arith, inv.advances);
      within = omega (arith, within);
      inside = λ e. grind (arith, nat_tests, e);
      simple = λ e d is. sym (ap begins_simple (drop-item chars (at + 1) d (grind (arith, nat_tests, e)) is)) ∙ follows;
      found = λ options joining start.
          IsFoundPast-more options (g.W.ClusterWidth.width_of c.args.widths.now) chars c.args.from at c.loop-simple.column c.saturating_add.result joining c.loop-simple.out.items c.push.new.self.items
          c.cluster_of_char-cluster.result item (inv.found options joining start) inv.advances within next simple follows (c.cluster_of_char-cluster.ensures options c.loop-simple.column)
          (omega arith) c.in_ok-push.ensures.items;
    }
