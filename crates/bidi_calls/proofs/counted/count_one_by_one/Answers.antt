use Rattle.bidi_base.proofs.Common.{◌<◌, ◌∙◌, arith, rules, length_push}
use Rattle.bidi_base.proofs.TextLemmas.{length-le-text_len}
use Rattle.bidi_base.proofs.UnitIndexLemmas.{length_turn, length_end}
use Rattle.bidi_calls.proofs.counted.count_one_by_one.Goals as goal

pub overflow_add-count : goal.overflow_add-count
overflow_add-count g c =
    let w = length_turn _ _ c.indices_lengths-at-items.ensures c.into_iter-at-iterator.ensures.into_iter_gives c.loop-at.yielded _ c.loop-at.yielded_by _ _ c.in-Some.at c.in-Some.field-0-1 c.in-Some.is c.next.ensures.steps in
    let below : c.loop-at.count < c.args.units =
    omega (arith, w.turn.within, length-le-text_len _ g.T.TextSource.encoding.positive (g.T.TextSource.text c.args.text).chars, c.loop-at.invariant.2, c.requires) in
    search rules

pub loop-at-preserved : goal.loop-at-preserved
loop-at-preserved g c = (
  c.in-Some.ensures.goes.keeps,
  (c.in-Some.ensures.goes.on c.loop-at.invariant.1).1,
  omega (arith, c.loop-at.invariant.2, length_push c.loop-at.yielded (c.in-Some.at, c.in-Some.field-0-1)),
)

pub returns : goal.returns
returns g c =
    c.loop-at.invariant.2 ∙ length_end g.T.TextSource.encoding.len_of (g.T.TextSource.text c.args.text).chars c.indices_lengths-at-items.ensures c.into_iter-at-iterator.ensures.into_iter_gives c.loop-at.yielded _ c.loop-at.yielded_by _ _ c.in-None.is c.next.ensures.steps
