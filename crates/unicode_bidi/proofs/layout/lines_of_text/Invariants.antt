use Rattle.bidi_base.proofs.Common.{◌≡◌, ◌-◌, ◌++◌, map, run_of, line_ranges, IsLine, All}
use Rattle.unicode_bidi.proofs.layout.lines_of_text.Given as goal

-- the lines so far, with those of what is left, are those of the range
abbrev pub invariant-loop-start : goal.invariant-loop-start
invariant-loop-start g l =
    let len = g.T.TextSource.encoding.len_of in
    let cs = (g.T.TextSource.text l.text).chars in
    let width_of = g.W.CharWidth.width_of l.widths in
    IsLine len cs l.start l.range.end
    × (map run_of l.lines.items ++ line_ranges len cs width_of l.limit l.start l.range.end ≡ line_ranges len cs width_of l.limit l.range.start l.range.end)
    × All (λ r. IsLine len cs r.start r.end) l.lines.items

abbrev pub decreases-loop-start : goal.decreases-loop-start
decreases-loop-start g l = l.range.end - l.start
