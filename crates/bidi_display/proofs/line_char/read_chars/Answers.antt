use Rattle.bidi_base.proofs.Common.{◌≡◌, ◌∙◌, ◌+◌, ◌<◌, ◌≤◌, ℕ, List, length, ap, subst, arith, rules, length_push, get_or, get_or_default}
use Rattle.bidi_base.specs.declared.char_data.BidiClass.TheVariants.{L}
use Rattle.bidi_base.proofs.UnitIndexLemmas.{CharTurn, index_turn, index_end}
use Rattle.bidi_display.proofs.LineCharsLemmas.{IsCharOfLine, char_of_line, length-read, line_chars-more, line_chars-end}
use Rattle.bidi_display.proofs.line_char.read_chars.Given.{Over}
use Rattle.bidi_display.proofs.line_char.read_chars.Goals as goal
use Rattle.bidi_display.proofs.line_char.read_chars.Goals.{In-Some}

-- the character that comes
char_of : (g : Over) (c : In-Some g) → IsCharOfLine g.T.TextSource.encoding.len_of g.T.TextSource.encoding.positive (g.T.TextSource.text c.args.text).chars c.args.classes.now c.args.line.start c.args.line.end c.requires.is_line c.requires.classes (length c.loop-offset.yielded) c.in-Some.offset c.in-Some.char
char_of g c =
    let len = g.T.TextSource.encoding.len_of in
    let chars : List ℕ = (g.T.TextSource.text c.args.text).chars in
    let turn : CharTurn len (g.T.TextSource.text c.subrange.result).chars (length c.loop-offset.yielded) c.in-Some.offset c.in-Some.char =
    index_turn len (g.T.TextSource.text c.subrange.result).chars c.char_indices-offset-items.ensures c.into_iter-offset-iterator.ensures.into_iter_gives c.loop-offset.yielded _ c.loop-offset.yielded_by _ _ c.in-Some.offset c.in-Some.char c.in-Some.is c.next.ensures.steps in
    char_of_line len g.T.TextSource.encoding.positive chars c.args.classes.now c.args.line.start c.args.line.end c.requires.is_line c.requires.classes (length c.loop-offset.yielded) c.in-Some.offset c.in-Some.char
    (subst (λ cs. CharTurn len cs (length c.loop-offset.yielded) c.in-Some.offset c.in-Some.char) (ap (λ t. t.chars) c.subrange.ensures) turn)

pub overflow_add-at : goal.overflow_add-at
overflow_add-at g c =
    let w = char_of g (goal.at.overflow_add-at g c).In-Some in
    let fits : c.args.line.start + c.in-Some.offset < length c.args.classes.now = w.has_class in
    search rules

pub overflow_add-at-in-loop-offset : goal.overflow_add-at-in-loop-offset
overflow_add-at-in-loop-offset g c =
    let w = char_of g (goal.at.overflow_add-at-in-loop-offset g c).In-Some in
    let fits : c.args.line.start + c.in-Some.offset + c.char_len.result ≤ length c.args.classes.now = omega (arith, w.fits, c.char_len.ensures) in
    search rules

pub bounds-classes-at : goal.bounds-classes-at
bounds-classes-at g c = (char_of g (goal.at.bounds-classes-at g c).In-Some).has_class

pub bounds-levels-len : goal.bounds-levels-len
bounds-levels-len g c =
    let w = char_of g (goal.at.bounds-levels-len g c).In-Some in
    omega (arith, length-read _ _ _ _ _ (length c.loop-offset.yielded) c.loop-offset.out.items (omega (arith, w.turn.within)) c.loop-offset.invariant.2, w.turn.within, c.requires.levels, c.len.ensures)

pub loop-offset-preserved : goal.loop-offset-preserved
loop-offset-preserved g c =
    let w = char_of g (goal.at.loop-offset-preserved g c).In-Some in
    let n : ℕ = length c.loop-offset.yielded in
    let read = length-read _ _ _ _ _ n c.loop-offset.out.items (omega (arith, w.turn.within)) c.loop-offset.invariant.2 in
    let place : c.len.result ≡ n = omega (arith, c.len.ensures, read) in (
      c.in-Some.ensures.goes.keeps,
      (c.in-Some.ensures.goes.on c.loop-offset.invariant.1).1,
      rw (c.in_ok-push.ensures.items, c.char_len.ensures, length_push c.loop-offset.yielded (c.in-Some.offset, c.in-Some.char))
          (line_chars-more _ _ _ _ _ n c.in-Some.offset c.in-Some.char c.index-levels-len.result (get_or c.args.classes.now (c.args.line.start + c.in-Some.offset) L) c.loop-offset.out.items w.turn c.loop-offset.invariant.2 w.class
          (c.index-levels-len.is ∙ ap (λ k. get_or c.args.levels.now k c.index-levels-len.result) place ∙ get_or_default c.args.levels.now n c.index-levels-len.result 0 (omega (arith, w.turn.within, c.requires.levels)))),
    )

pub returns : goal.returns
returns g c = line_chars-end _ _ _ _ _ (length c.loop-offset.yielded) c.loop-offset.out.items
    (index_end g.T.TextSource.encoding.len_of (g.T.TextSource.text c.subrange.result).chars c.char_indices-offset-items.ensures c.into_iter-offset-iterator.ensures.into_iter_gives c.loop-offset.yielded _ c.loop-offset.yielded_by _ _ c.in-None.is c.next.ensures.steps
    ∙ ap (λ t. length t.chars) c.subrange.ensures) c.loop-offset.invariant.2
