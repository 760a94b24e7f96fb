use Rattle.bidi_base.proofs.Common.{◌-◌, length, sym, ◌∙◌, arith}
use Rattle.bidi_display.specs.Shown.{chars, clusters}
use Rattle.bidi_display.proofs.ClusterRanges.{chars_not_empty-at, chars_within-at}
use Rattle.bidi_display.proofs.ShownPart.{is_last_of, shown_length-all, shown_length-less}
use Rattle.bidi_display.proofs.displayed_line.DisplayedLine.shown_length.Goals as goal

pub chars_of-requires-clause-start : goal.chars_of-requires-clause-start
chars_of-requires-clause-start c =
    let line = c.args.self.now in
    let k = c.index-clusters-count.result in
    let last = is_last_of (clusters line) _ c.loop-count.count k (omega arith) c.loop-count.invariant.within c.clusters-clusters.ensures c.index-clusters-count.is in
    omega (arith, chars_not_empty-at (length (chars line)) (clusters line) (c.loop-count.count - 1) k line.chars_within last.within last.place)

pub chars_of-requires-clause-end : goal.chars_of-requires-clause-end
chars_of-requires-clause-end c =
    let line = c.args.self.now in
    let k = c.index-clusters-count.result in
    let last = is_last_of (clusters line) _ c.loop-count.count k (omega arith) c.loop-count.invariant.within c.clusters-clusters.ensures c.index-clusters-count.is in
    chars_within-at (length (chars line)) (clusters line) (c.loop-count.count - 1) k line.chars_within last.within last.place

pub loop-count-preserved : goal.loop-count-preserved
loop-count-preserved c =
    let line = c.args.self.now in
    let k = c.index-clusters-count.result in
    let last = is_last_of (clusters line) _ c.loop-count.count k (omega arith) c.loop-count.invariant.within c.clusters-clusters.ensures c.index-clusters-count.is in
    record {
      within = omega arith;
      same = shown_length-less (chars line) (clusters line) c.loop-count.count k _ last c.chars_of.ensures (sym c.are_white_space.ensures ∙ c.if-are_white_space.true) ∙ c.loop-count.invariant.same;
    }

pub returns-else-are_white_space-clause-count : goal.returns-else-are_white_space-clause-count
returns-else-are_white_space-clause-count c =
    let line = c.args.self.now in
    let k = c.index-clusters-count.result in
    let last = is_last_of (clusters line) _ c.loop-count.count k (omega arith) c.loop-count.invariant.within c.clusters-clusters.ensures c.index-clusters-count.is in
    sym (shown_length-all (chars line) (clusters line) c.loop-count.count k _ last c.chars_of.ensures (omega arith) (sym c.are_white_space.ensures ∙ c.if-are_white_space.false)) ∙ c.loop-count.invariant.same
