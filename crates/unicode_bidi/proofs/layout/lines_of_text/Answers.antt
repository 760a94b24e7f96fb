use Rattle.bidi_base.proofs.Common.{◌≡◌, ◌+◌, ℕ, ap, List, arith, map-append, append_assoc, append-nil}
use Rattle.bidi_laws.proofs.LayoutLemmas.{FirstLine, first_line, line_ranges-none, line_ranges-IsPartition}
use Rattle.unicode_bidi.proofs.layout.lines_of_text.Goals as goal
use Rattle.unicode_bidi.proofs.layout.lines_of_text.Goals.{After-first_line_len}
use Rattle.unicode_bidi.proofs.layout.lines_of_text.Given.{Over}

-- the line that comes
line_here : (g : Over) (c : After-first_line_len g)
    → FirstLine (g.W.CharWidth.width_of c.args.widths.now) c.args.limit g.T.TextSource.encoding.len_of g.T.TextSource.encoding.positive (g.T.TextSource.text c.args.text).chars c.loop-start.start c.args.range.end (c.loop-start.start + c.first_line_len.result)
line_here g c =
    first_line _ _ _ g.T.TextSource.encoding.positive _ _ _ _ c.loop-start.invariant.0 c.loop-start-test.true (ap (λ (n : ℕ). c.loop-start.start + n) (rw c.subrange-rest.ensures at c.first_line_len.ensures))

pub overflow_add-end : goal.overflow_add-end
overflow_add-end g c = grind (arith, line_here)

pub loop-start-smaller : goal.loop-start-smaller
loop-start-smaller g c = grind (arith, line_here)

pub loop-start-preserved : goal.loop-start-preserved
loop-start-preserved g c = grind (arith, line_here, map-append, append_assoc)

pub returns-clause-lines : goal.returns-clause-lines
returns-clause-lines g c =
    let len = g.T.TextSource.encoding.len_of in
    let cs : List ℕ = (g.T.TextSource.text c.args.text).chars in
    let end : c.loop-start.start ≡ c.args.range.end = omega (arith, c.loop-start.invariant.0.ordered, c.loop-start-test.false) in
    simp (line_ranges-none (g.W.CharWidth.width_of c.args.widths.now) c.args.limit len g.T.TextSource.encoding.positive cs c.loop-start.start c.args.range.end end, append-nil) at c.loop-start.invariant.1

pub returns-clause-partition : goal.returns-clause-partition
returns-clause-partition g c = grind (arith, line_ranges-IsPartition, returns-clause-lines)
