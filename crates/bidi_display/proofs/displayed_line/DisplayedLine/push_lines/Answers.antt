use Rattle.bidi_base.proofs.Common.{◌≡◌, ◌+◌, ◌-◌, ◌++◌, true, drop, get_or, length, map, run_of, is_boundary, IsPartition, subst, sym, ap, ◌∙◌, arith}
use Rattle.bidi_display.specs.LineBreaks.{lines_of}
use Rattle.bidi_display.specs.Shown.{chars, clusters, options}
use Rattle.bidi_display.specs.declared.line_cluster.LineCluster.{LineCluster}
use Rattle.bidi_display.proofs.Extending.{Extends-appended, Extends-trans, Extends-length}
use Rattle.bidi_display.proofs.LineCuts.{lines-cut}
use Rattle.bidi_display.proofs.LineRuns.{IsPartition-appended, lines-end, lines-push, runs-appended, lines_of-IsPartition}
use Rattle.bidi_display.proofs.displayed_line.DisplayedLine.push_lines.Goals as goal

pub push_or_cut-requires : goal.push_or_cut-requires
push_or_cut-requires g c = omega (arith, c.len-len.ensures, Extends-length _ _ c.loop-from.invariant.extends)

pub returns-in_err-push_or_cut-clause-unchanged : goal.returns-in_err-push_or_cut-clause-unchanged
returns-in_err-push_or_cut-clause-unchanged g c = grind arith

pub loop-from-preserved : goal.loop-from-preserved
loop-from-preserved g c =
    let line = c.args.self.now in
    let break_after_of = g.B.LineBreaks.break_after_of c.args.breaks.now in
    let all = map run_of c.args.out.now.items ++ lines_of (options line) break_after_of c.args.limit (chars line) line.start (clusters line) in
    let from = c.loop-from.from in
    let n = c.line_length-from.result in
    let k = c.index-clusters-from.result in
    let at : k ≡ get_or (clusters line) (from + n - 1) k = c.index-clusters-from.is ∙ ap (λ ks. get_or ks (from + n - 1) k) c.clusters-in-loop-from.ensures in
    record {
      within = omega (arith, c.line_length-from.ensures.within);
      lines = lines-push (options line) break_after_of c.args.limit (chars line) (clusters line) from n c.loop-from.start _ k c.loop-from.out.items c.push_or_cut.new.out.items all
          (grind arith) c.line_length-from.ensures.length c.line_length-from.ensures.some c.line_length-from.ensures.within at (ap (λ (x : LineCluster). x.end) (sym c.index-clusters-from.is))
          c.in_ok-push_or_cut.ensures.pushed c.loop-from.invariant.lines;
      extends = Extends-trans _ _ _ c.loop-from.invariant.extends (Extends-appended _ _ _ c.in_ok-push_or_cut.ensures.pushed);
    }

-- the lines, after the loop
pub returns-clause-lines : goal.returns-clause-lines
returns-clause-lines g c =
    let line = c.args.self.now in
    let break_after_of = g.B.LineBreaks.break_after_of c.args.breaks.now in
    let all = map run_of c.args.out.now.items ++ lines_of (options line) break_after_of c.args.limit (chars line) line.start (clusters line) in
    lines-end (options line) break_after_of c.args.limit (chars line) (clusters line) c.loop-from.from c.loop-from.start c.loop-from.out.items all (grind arith) c.loop-from.invariant.lines

pub returns-clause-whole : goal.returns-clause-whole
returns-clause-whole g c =
    let line = c.args.self.now in
    let break_after_of = g.B.LineBreaks.break_after_of c.args.breaks.now in
    let lines = lines_of (options line) break_after_of c.args.limit (chars line) line.start (clusters line) in
    IsPartition-appended line.start line.end c.args.out.now.items c.loop-from.out.items lines (returns-clause-lines g c)
    (lines_of-IsPartition (options line) break_after_of c.args.limit (chars line) line.start line.end (clusters line) line.whole)

pub returns-clause-are_lines : goal.returns-clause-are_lines
returns-clause-are_lines g c = λ width_of a level range shows.
    let line = c.args.self.now in
    let break_after_of = g.B.LineBreaks.break_after_of c.args.breaks.now in
    let lines = lines_of (options line) break_after_of c.args.limit (chars line) line.start (clusters line) in
    let old = c.args.out.now.items in
    let new = c.loop-from.out.items in
    let appended : map run_of (drop (length old) new) ≡ lines = runs-appended old new lines (returns-clause-lines g c) in
    let whole = subst (IsPartition line.start line.end) (sym appended) (lines_of-IsPartition (options line) break_after_of c.args.limit (chars line) line.start line.end (clusters line) line.whole) in
    lines-cut a (options line) break_after_of c.args.limit (chars line) line.start line.end (clusters line) (drop (length old) new)
    appended whole (subst (λ u. is_boundary a.len_of a.chars u ≡ true) (sym shows.start) shows.is_line.begins) shows.cut_no_char
