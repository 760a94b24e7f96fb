use Rattle.bidi_base.proofs.Common.{◌+◌, ◌≤◌, ℕ, List, length, arith, rules}
use Rattle.unicode_bidi.proofs.ContentLemmas.{content-IsLine, content-within, end-within}
use Rattle.unicode_bidi.proofs.info.BidiInfo.content.Goals as goal

pub slice_bounds-classes-end : goal.slice_bounds-classes-end
slice_bounds-classes-end g c =
    let chars : List ℕ = (g.T.TextSource.text c.args.self.now.analysed.text).chars in
    let line = rw (← c.range-range.ensures) at c.requires in
    end-within g.T.TextSource.encoding.len_of g.T.TextSource.encoding.positive chars c.original_classes.result.now c.original_classes.ensures.per_char c.range-range.result.start c.range-range.result.end line

pub overflow_add-result : goal.overflow_add-result
overflow_add-result g c =
    let chars : List ℕ = (g.T.TextSource.text c.args.self.now.analysed.text).chars in
    let classes = c.original_classes.result.now in
    let line = rw (← c.range-range.ensures) at c.requires in
    let inside = content-within g.T.TextSource.encoding.len_of g.T.TextSource.encoding.positive chars classes c.original_classes.ensures.per_char c.range-range.result.start c.range-range.result.end line in
    let within = end-within g.T.TextSource.encoding.len_of g.T.TextSource.encoding.positive chars classes c.original_classes.ensures.per_char c.range-range.result.start c.range-range.result.end line in
    let fits : c.range-range.result.start + c.content_len.result ≤ length classes = omega (arith, inside, within, c.content_len.ensures) in
    search rules

pub returns-clause-is_line : goal.returns-clause-is_line
returns-clause-is_line g c =
    let chars : List ℕ = (g.T.TextSource.text c.args.self.now.analysed.text).chars in
    let line = rw (← c.range-range.ensures) at c.requires in
    rw c.content_len.ensures
    (content-IsLine g.T.TextSource.encoding.len_of g.T.TextSource.encoding.positive chars c.original_classes.result.now c.original_classes.ensures.per_char c.range-range.result.start c.range-range.result.end line)
