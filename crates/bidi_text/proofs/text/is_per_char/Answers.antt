use Rattle.bidi_base.proofs.Common.{◌∙◌, sym, ap, arith, is_per_char}
use Rattle.bidi_base.proofs.GivesLemmas.{turn_drop, end_drop}
use Rattle.bidi_base.proofs.UnitsLemmas.{step_short, step_unequal, step_on}
use Rattle.bidi_text.proofs.text.is_per_char.Goals as goal

pub returns-then-rest-len : goal.returns-then-rest-len
returns-then-rest-len g c =
    let d = turn_drop c.chars-c-items.ensures c.into_iter-c-iterator.ensures.into_iter_gives c.loop-c.yielded _ c.loop-c.yielded_by _ _ c.in-Some.c c.in-Some.is c.next.ensures.steps in
    sym (sym c.loop-c.invariant.2 ∙ step_short g.E.PartialEq.eq g.T.TextSource.encoding.len_of _ _ c.in-Some.c c.loop-c.rest.now d (omega (arith, c.char_len-len.ensures)))

pub returns-then-not-all_equal : goal.returns-then-not-all_equal
returns-then-not-all_equal g c =
    let d = turn_drop c.chars-c-items.ensures c.into_iter-c-iterator.ensures.into_iter_gives c.loop-c.yielded _ c.loop-c.yielded_by _ _ c.in-Some.c c.in-Some.is c.next.ensures.steps in
    sym (sym c.loop-c.invariant.2 ∙ step_unequal g.E.PartialEq.eq g.T.TextSource.encoding.len_of _ _ c.in-Some.c c.loop-c.rest.now d (grind arith))

pub loop-c-preserved : goal.loop-c-preserved
loop-c-preserved g c =
    let d = turn_drop c.chars-c-items.ensures c.into_iter-c-iterator.ensures.into_iter_gives c.loop-c.yielded _ c.loop-c.yielded_by _ _ c.in-Some.c c.in-Some.is c.next.ensures.steps in
    let on = step_on g.E.PartialEq.eq g.T.TextSource.encoding.len_of _ _ c.in-Some.c c.loop-c.rest.now d (omega (arith, c.char_len-len.ensures)) (grind arith) in (
      c.in-Some.ensures.goes.keeps,
      (c.in-Some.ensures.goes.on c.loop-c.invariant.1).1,
      rw (c.split_at.ensures.back, c.char_len-len.ensures) (sym on ∙ c.loop-c.invariant.2),
    )

pub returns : goal.returns
returns g c =
    let d = end_drop c.chars-c-items.ensures c.into_iter-c-iterator.ensures.into_iter_gives c.loop-c.yielded _ c.loop-c.yielded_by _ _ c.in-None.is c.next.ensures.steps in
    c.is_empty.ensures ∙ ap (λ ds. is_per_char g.E.PartialEq.eq g.T.TextSource.encoding.len_of ds c.loop-c.rest.now) (sym d) ∙ c.loop-c.invariant.2
