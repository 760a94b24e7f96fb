use Rattle.bidi_base.proofs.Common.{◌≡◌, ◌∙◌, ◌+◌, ◌++◌, ◌≤◌, ℕ, flat_map, List, length, ap, sym, subst, arith, rules, refl, char_index, IsLine, Range}
use Rattle.bidi_lines.specs.Analysed.{with_lists}
use Rattle.bidi_display.specs.Shown.{options, chars}
use Rattle.unicode_bidi.proofs.ContentLemmas.{content-within, end-within}
use Rattle.bidi_calls.proofs.WholeTextLemmas.{before-end, before-end-fits, before-separators, before-separators-fits, content-line, read-is, separators-line, written-order, written-text}
use Rattle.bidi_calls.specs.WholeText.{paragraph_order, paragraph_text}
use Rattle.bidi_calls.proofs.whole_text.push_paragraph.Given.{Over}
use Rattle.bidi_calls.proofs.whole_text.push_paragraph.Goals as goal
use Rattle.bidi_calls.proofs.whole_text.push_paragraph.Goals.{After-range-range}

-- the range that was read is a line
line_of : (g : Over) (c : After-range-range g) → IsLine g.T.TextSource.encoding.len_of (g.T.TextSource.text c.args.shown.now.text).chars c.range-range.result.start c.range-range.result.end
line_of g c =
    let chars : List ℕ = (g.T.TextSource.text c.args.shown.now.text).chars in
    subst (λ (r : Range ℕ). IsLine g.T.TextSource.encoding.len_of chars r.start r.end) (sym c.range-range.ensures) c.requires.is_line

pub slice_bounds-content_len-end : goal.slice_bounds-content_len-end
slice_bounds-content_len-end g c =
    let chars : List ℕ = (g.T.TextSource.text c.args.shown.now.text).chars in
    end-within g.T.TextSource.encoding.len_of g.T.TextSource.encoding.positive chars c.args.shown.now.classes.now c.args.shown.now.per_char_classes c.range-range.result.start c.range-range.result.end
    (line_of g (goal.at.slice_bounds-content_len-end g c).After-range-range)

pub overflow_add-content_end : goal.overflow_add-content_end
overflow_add-content_end g c =
    let chars : List ℕ = (g.T.TextSource.text c.args.shown.now.text).chars in
    let classes = c.args.shown.now.classes.now in
    let line = line_of g (goal.at.overflow_add-content_end g c).After-range-range in
    let inside = content-within g.T.TextSource.encoding.len_of g.T.TextSource.encoding.positive chars classes c.args.shown.now.per_char_classes c.range-range.result.start c.range-range.result.end line in
    let within = end-within g.T.TextSource.encoding.len_of g.T.TextSource.encoding.positive chars classes c.args.shown.now.per_char_classes c.range-range.result.start c.range-range.result.end line in
    let fits : c.range-range.result.start + c.content_len.result ≤ length classes = omega (arith, inside, within, c.content_len.ensures) in
    search rules

pub show-requires-clause-is_line : goal.show-requires-clause-is_line
show-requires-clause-is_line g c =
    let a = with_lists (g.T.TextSource.text c.args.shown.now.text) c.args.shown.now.classes.now c.args.shown.now.levels.now in
    let some = g.T.TextSource.encoding.positive in
    let classes = c.args.shown.now.per_char_classes in
    let r = c.range-range.result in
    let n = c.content_len.result in
    let line = line_of g (goal.at.show-requires-clause-is_line g c).After-range-range in
    content-line a some classes r line n c.content_len.ensures

pub subrange-separators-requires : goal.subrange-separators-requires
subrange-separators-requires g c =
    let a = with_lists (g.T.TextSource.text c.args.shown.now.text) c.args.shown.now.classes.now c.args.shown.now.levels.now in
    let some = g.T.TextSource.encoding.positive in
    let classes = c.args.shown.now.per_char_classes in
    let r = c.range-range.result in
    let n = c.content_len.result in
    let line = line_of g (goal.at.subrange-separators-requires g c).After-range-range in
    separators-line a some classes r line n c.content_len.ensures

pub push_order-requires : goal.push_order-requires
push_order-requires g c =
    let a = with_lists (g.T.TextSource.text c.args.shown.now.text) c.args.shown.now.classes.now c.args.shown.now.levels.now in
    let some = g.T.TextSource.encoding.positive in
    let classes = c.args.shown.now.per_char_classes in
    let r = c.range-range.result in
    let n = c.content_len.result in
    let line = line_of g (goal.at.push_order-requires g c).After-range-range in
    let first : c.args.first ≡ char_index a.len_of a.chars r.start = c.requires.first ∙ ap (λ (q : Range ℕ). char_index a.len_of a.chars q.start) (sym c.range-range.ensures) in
    let middle = before-separators a some classes r line n c.content_len.ensures c.level.result c.show.new.self c.in_ok-show.ensures.displays c.args.first (length (chars c.show.new.self)) first refl in
    let fits : c.args.first + length (chars c.show.new.self) ≤ length c.args.shown.now.classes.now = omega (arith, middle, before-separators-fits a some classes r line n c.content_len.ensures) in
    search rules

pub overflow_add-separators_first : goal.overflow_add-separators_first
overflow_add-separators_first g c =
    let a = with_lists (g.T.TextSource.text c.args.shown.now.text) c.args.shown.now.classes.now c.args.shown.now.levels.now in
    let some = g.T.TextSource.encoding.positive in
    let classes = c.args.shown.now.per_char_classes in
    let r = c.range-range.result in
    let n = c.content_len.result in
    let line = line_of g (goal.at.overflow_add-separators_first g c).After-range-range in
    let first : c.args.first ≡ char_index a.len_of a.chars r.start = c.requires.first ∙ ap (λ (q : Range ℕ). char_index a.len_of a.chars q.start) (sym c.range-range.ensures) in
    let middle = before-separators a some classes r line n c.content_len.ensures c.level.result c.show.new.self c.in_ok-show.ensures.displays c.args.first (length c.chars.result.now) first (ap length c.chars.ensures) in
    let fits : c.args.first + length c.chars.result.now ≤ length c.args.shown.now.classes.now = omega (arith, middle, before-separators-fits a some classes r line n c.content_len.ensures) in
    search rules

pub overflow_add-next : goal.overflow_add-next
overflow_add-next g c =
    let a = with_lists (g.T.TextSource.text c.args.shown.now.text) c.args.shown.now.classes.now c.args.shown.now.levels.now in
    let some = g.T.TextSource.encoding.positive in
    let classes = c.args.shown.now.per_char_classes in
    let r = c.range-range.result in
    let n = c.content_len.result in
    let line = line_of g (goal.at.overflow_add-next g c).After-range-range in
    let first : c.args.first ≡ char_index a.len_of a.chars r.start = c.requires.first ∙ ap (λ (q : Range ℕ). char_index a.len_of a.chars q.start) (sym c.range-range.ensures) in
    let middle = before-separators a some classes r line n c.content_len.ensures c.level.result c.show.new.self c.in_ok-show.ensures.displays c.args.first (length c.chars.result.now) first (ap length c.chars.ensures) in
    let next = before-end a some classes r line n c.content_len.ensures _ c.count_characters.result middle (c.count_characters.ensures ∙ ap (λ t. length t.chars) c.subrange-separators.ensures) in
    let fits : c.args.first + length c.chars.result.now + c.count_characters.result ≤ length c.args.shown.now.classes.now =
    omega (arith, next, before-end-fits a some classes r line n c.content_len.ensures) in
    search rules

pub returns-clause-next : goal.returns-clause-next
returns-clause-next g c =
    let a = with_lists (g.T.TextSource.text c.args.shown.now.text) c.args.shown.now.classes.now c.args.shown.now.levels.now in
    let some = g.T.TextSource.encoding.positive in
    let classes = c.args.shown.now.per_char_classes in
    let r = c.range-range.result in
    let n = c.content_len.result in
    let line = line_of g (goal.at.returns-clause-next g c).After-range-range in
    let first : c.args.first ≡ char_index a.len_of a.chars r.start = c.requires.first ∙ ap (λ (q : Range ℕ). char_index a.len_of a.chars q.start) (sym c.range-range.ensures) in
    let middle = before-separators a some classes r line n c.content_len.ensures c.level.result c.show.new.self c.in_ok-show.ensures.displays c.args.first (length c.chars.result.now) first (ap length c.chars.ensures) in
    before-end a some classes r line n c.content_len.ensures _ c.count_characters.result middle (c.count_characters.ensures ∙ ap (λ t. length t.chars) c.subrange-separators.ensures)
    ∙ ap (λ (q : Range ℕ). char_index a.len_of a.chars q.end) c.range-range.ensures

pub returns-clause-order : goal.returns-clause-order
returns-clause-order g c =
    let a = with_lists (g.T.TextSource.text c.args.shown.now.text) c.args.shown.now.classes.now c.args.shown.now.levels.now in
    let some = g.T.TextSource.encoding.positive in
    let classes = c.args.shown.now.per_char_classes in
    let r = c.range-range.result in
    let n = c.content_len.result in
    let line = line_of g (goal.at.returns-clause-order g c).After-range-range in
    let first : c.args.first ≡ char_index a.len_of a.chars r.start = c.requires.first ∙ ap (λ (q : Range ℕ). char_index a.len_of a.chars q.start) (sym c.range-range.ensures) in
    let middle = before-separators a some classes r line n c.content_len.ensures c.level.result c.show.new.self c.in_ok-show.ensures.displays c.args.first (length c.chars.result.now) first (ap length c.chars.ensures) in
    let next = before-end a some classes r line n c.content_len.ensures _ c.count_characters.result middle (c.count_characters.ensures ∙ ap (λ t. length t.chars) c.subrange-separators.ensures) in
    let old : List ℕ = c.args.out.now.order.items in
    written-order (options c.args.line.now) a r c.level.result n c.content_len.ensures c.show.new.self c.show.ensures.options c.in_ok-show.ensures.displays c.args.first _ _ first middle next
    old c.push_order.new.out.items c.push_between.new.out.items c.in_ok-push_order.ensures c.in_ok-push_between.ensures
    ∙ ap (λ p. old ++ paragraph_order (options c.args.line.now) a p) (read-is c.args.paragraph.now r c.level.result c.range-range.ensures c.level.ensures)

pub returns-clause-text : goal.returns-clause-text
returns-clause-text g c =
    let a = with_lists (g.T.TextSource.text c.args.shown.now.text) c.args.shown.now.classes.now c.args.shown.now.levels.now in
    let r = c.range-range.result in
    let n = c.content_len.result in
    let mirrored_of = g.M.MirroredCharacters.mirrored_of c.args.mirrors.now in
    let encode = g.T.LineText.encode in
    let old = c.args.out.now.text.items in
    written-text (options c.args.line.now) a r c.level.result n c.content_len.ensures c.show.new.self c.show.ensures.options c.in_ok-show.ensures.displays encode mirrored_of
    old c.push_line_text.new.out.items c.push_text.new.out.items (g.T.TextSource.text c.subrange-separators.result).chars c.in_ok-push_line_text.ensures (ap (λ t. t.chars) c.subrange-separators.ensures) c.in_ok-push_text.ensures
    ∙ ap (λ p. old ++ flat_map encode (paragraph_text (options c.args.line.now) mirrored_of a p)) (read-is c.args.paragraph.now r c.level.result c.range-range.ensures c.level.ensures)
