use Rattle.bidi_base.proofs.Common.{◌+◌, ◌≤◌, ℕ, List, length, ap, sym, subst, arith, rules, IsLine, Range}
use Rattle.std.proofs.Common.{string_bytes}
use Rattle.bidi_lines.specs.Analysed.{with_lists}
use Rattle.bidi_display.specs.Shown.{options}
use Rattle.unicode_bidi.proofs.ContentLemmas.{content-IsLine, content-within, end-within, separators-IsLine}
use Rattle.bidi_display.proofs.Extending.{Extends-appended, Extends-trans}
use Rattle.bidi_display.proofs.TextDisplayLemmas.{on_ok, written-paragraph}
use Rattle.bidi_display.proofs.text_display.push_paragraph.Given.{Over}
use Rattle.bidi_display.proofs.text_display.push_paragraph.Goals as goal
use Rattle.bidi_display.proofs.text_display.push_paragraph.Goals.{After-range-range}

-- the range that was read is a line
line_of : (g : Over) (c : After-range-range g) → IsLine g.T.TextSource.encoding.len_of (g.T.TextSource.text c.args.text).chars c.range-range.result.start c.range-range.result.end
line_of g c =
    let chars : List ℕ = (g.T.TextSource.text c.args.text).chars in
    subst (λ (r : Range ℕ). IsLine g.T.TextSource.encoding.len_of chars r.start r.end) (sym c.range-range.ensures) c.requires.is_line

pub slice_bounds-content_len-end : goal.slice_bounds-content_len-end
slice_bounds-content_len-end g c =
    let chars : List ℕ = (g.T.TextSource.text c.args.text).chars in
    end-within g.T.TextSource.encoding.len_of g.T.TextSource.encoding.positive chars c.args.classes.now c.requires.classes c.range-range.result.start c.range-range.result.end
    (line_of g (goal.at.slice_bounds-content_len-end g c).After-range-range)

pub overflow_add-content_end : goal.overflow_add-content_end
overflow_add-content_end g c =
    let chars : List ℕ = (g.T.TextSource.text c.args.text).chars in
    let line = line_of g (goal.at.overflow_add-content_end g c).After-range-range in
    let inside = content-within g.T.TextSource.encoding.len_of g.T.TextSource.encoding.positive chars c.args.classes.now c.requires.classes c.range-range.result.start c.range-range.result.end line in
    let within = end-within g.T.TextSource.encoding.len_of g.T.TextSource.encoding.positive chars c.args.classes.now c.requires.classes c.range-range.result.start c.range-range.result.end line in
    let fits : c.range-range.result.start + c.content_len.result ≤ length c.args.classes.now = omega (arith, inside, within, c.content_len.ensures) in
    search rules

pub show-requires-clause-is_line : goal.show-requires-clause-is_line
show-requires-clause-is_line g c =
    let chars : List ℕ = (g.T.TextSource.text c.args.text).chars in
    let line = line_of g (goal.at.show-requires-clause-is_line g c).After-range-range in
    rw c.content_len.ensures
    (content-IsLine g.T.TextSource.encoding.len_of g.T.TextSource.encoding.positive chars c.args.classes.now c.requires.classes c.range-range.result.start c.range-range.result.end line)

pub subrange-requires : goal.subrange-requires
subrange-requires g c =
    let chars : List ℕ = (g.T.TextSource.text c.args.text).chars in
    let line = line_of g (goal.at.subrange-requires g c).After-range-range in
    rw c.content_len.ensures
    (separators-IsLine g.T.TextSource.encoding.len_of g.T.TextSource.encoding.positive chars c.args.classes.now c.requires.classes c.range-range.result.start c.range-range.result.end line)

pub returns-clause-text : goal.returns-clause-text
returns-clause-text g c =
    let a = with_lists (g.T.TextSource.text c.args.text) c.args.classes.now c.args.levels.now in
    let mirrored_of = g.M.MirroredCharacters.mirrored_of c.args.mirrors.now in
    on_ok c.push_chars.result
    (λ pushed. written-paragraph (options c.args.line.now) mirrored_of a c.args.paragraph.now c.range-range.result c.level.result c.content_len.result c.range-range.ensures c.level.ensures c.content_len.ensures
    c.show.new.self (string_bytes c.args.out.now) (string_bytes c.push_text.new.out) (string_bytes c.push_chars.new.out) (g.T.TextSource.text c.subrange.result).chars c.show.ensures.options
    c.in_ok-show.ensures.displays c.in_ok-push_text.ensures.text (ap (λ t. t.chars) c.subrange.ensures) pushed) c.push_chars.ensures.text

pub returns-clause-extends : goal.returns-clause-extends
returns-clause-extends g c = Extends-trans _ _ _ (Extends-appended _ _ _ c.in_ok-push_text.ensures.text) c.push_chars.ensures.extends
