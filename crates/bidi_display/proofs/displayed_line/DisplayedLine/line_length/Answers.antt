use Rattle.bidi_base.proofs.Common.{◌+◌, length, arith}
use Rattle.bidi_display.specs.Shown.{chars, clusters, options}
use Rattle.bidi_display.proofs.ClusterRanges.{chars_not_empty-at, chars_within-at}
use Rattle.bidi_display.proofs.LineLengths.{is_cluster_past, is_read, last_end-le, total-broken, total-forced, total-more, total-unbroken}
use Rattle.bidi_display.proofs.displayed_line.DisplayedLine.line_length.Goals as goal

pub chars_of-chars-requires-clause-start : goal.chars_of-chars-requires-clause-start
chars_of-chars-requires-clause-start g c =
    let line = c.args.self.now in
    let at = is_cluster_past (clusters line) c.args.from c.loop-index.index c.index-rest-index.result (grind arith) (grind arith) in
    omega (arith, chars_not_empty-at (length (chars line)) (clusters line) (c.args.from + c.loop-index.index) c.index-rest-index.result line.chars_within at.within at.place)

pub chars_of-chars-requires-clause-end : goal.chars_of-chars-requires-clause-end
chars_of-chars-requires-clause-end g c =
    let line = c.args.self.now in
    let at = is_cluster_past (clusters line) c.args.from c.loop-index.index c.index-rest-index.result (grind arith) (grind arith) in
    chars_within-at (length (chars line)) (clusters line) (c.args.from + c.loop-index.index) c.index-rest-index.result line.chars_within at.within at.place

pub width_in_line-width-requires-clause-start : goal.width_in_line-width-requires-clause-start
width_in_line-width-requires-clause-start g c =
    let line = c.args.self.now in
    let at = is_cluster_past (clusters line) c.args.from c.loop-index.index c.index-rest-index.result (grind arith) (grind arith) in
    omega (arith, chars_not_empty-at (length (chars line)) (clusters line) (c.args.from + c.loop-index.index) c.index-rest-index.result line.chars_within at.within at.place)

pub width_in_line-width-requires-clause-end : goal.width_in_line-width-requires-clause-end
width_in_line-width-requires-clause-end g c =
    let line = c.args.self.now in
    let at = is_cluster_past (clusters line) c.args.from c.loop-index.index c.index-rest-index.result (grind arith) (grind arith) in
    chars_within-at (length (chars line)) (clusters line) (c.args.from + c.loop-index.index) c.index-rest-index.result line.chars_within at.within at.place

pub returns-then-last-eq0-clause-length : goal.returns-then-last-eq0-clause-length
returns-then-last-eq0-clause-length g c =
    let break_after_of = g.B.LineBreaks.break_after_of c.args.breaks.now in
    let line = c.args.self.now in
    let at = is_cluster_past (clusters line) c.args.from c.loop-index.index c.index-rest-index.result (grind arith) (grind arith) in
    let read = is_read (options line) (chars line) (clusters line) c.args.from c.loop-index.index c.loop-index.column _ _ _ c.index-rest-index.result _ at c.chars_of-chars.ensures
    c.are_white_space-white.ensures c.width_in_line-width.ensures c.saturating_add-column.ensures in
    total-unbroken (options line) break_after_of c.args.limit (chars line) c.loop-index.last _ read c.loop-index.invariant.same _ c.overflows.ensures c.if-overflows.true c.if-last-eq0.true

pub returns-else-last-eq0-clause-length : goal.returns-else-last-eq0-clause-length
returns-else-last-eq0-clause-length g c =
    let break_after_of = g.B.LineBreaks.break_after_of c.args.breaks.now in
    let line = c.args.self.now in
    let at = is_cluster_past (clusters line) c.args.from c.loop-index.index c.index-rest-index.result (grind arith) (grind arith) in
    let read = is_read (options line) (chars line) (clusters line) c.args.from c.loop-index.index c.loop-index.column _ _ _ c.index-rest-index.result _ at c.chars_of-chars.ensures
    c.are_white_space-white.ensures c.width_in_line-width.ensures c.saturating_add-column.ensures in
    total-broken (options line) break_after_of c.args.limit (chars line) c.loop-index.last _ read c.loop-index.invariant.same _ c.overflows.ensures c.if-overflows.true c.if-last-eq0.false

pub returns-then-is_forced-clause-length : goal.returns-then-is_forced-clause-length
returns-then-is_forced-clause-length g c =
    let break_after_of = g.B.LineBreaks.break_after_of c.args.breaks.now in
    let line = c.args.self.now in
    let at = is_cluster_past (clusters line) c.args.from c.loop-index.index c.index-rest-index.result (grind arith) (grind arith) in
    let read = is_read (options line) (chars line) (clusters line) c.args.from c.loop-index.index c.loop-index.column _ _ _ c.index-rest-index.result _ at c.chars_of-chars.ensures
    c.are_white_space-white.ensures c.width_in_line-width.ensures c.saturating_add-column.ensures in
    total-forced (options line) break_after_of c.args.limit (chars line) c.loop-index.last _ read c.loop-index.invariant.same _ _ _ _ c.chars_of-chars.ensures c.break_after-after.ensures c.overflows.ensures c.if-overflows.false c.is_forced.ensures c.if-is_forced.true

pub loop-index-preserved : goal.loop-index-preserved
loop-index-preserved g c =
    let break_after_of = g.B.LineBreaks.break_after_of c.args.breaks.now in
    let line = c.args.self.now in
    let at = is_cluster_past (clusters line) c.args.from c.loop-index.index c.index-rest-index.result (grind arith) (grind arith) in
    let read = is_read (options line) (chars line) (clusters line) c.args.from c.loop-index.index c.loop-index.column _ _ _ c.index-rest-index.result _ at c.chars_of-chars.ensures
    c.are_white_space-white.ensures c.width_in_line-width.ensures c.saturating_add-column.ensures in
    record {
      same = total-more (options line) break_after_of c.args.limit (chars line) c.loop-index.last _ read c.loop-index.invariant.same
          _ _ _ _ c.chars_of-chars.ensures c.break_after-after.ensures c.overflows.ensures c.if-overflows.false c.is_forced.ensures _ c.last_end-last.ensures c.if-is_forced.false;
      begun = λ _. omega arith;
      within = omega (arith, c.last_end-last.ensures, last_end-le c.break_after-after.result c.are_white_space-white.result c.loop-index.index c.loop-index.last c.loop-index.invariant.within);
    }
