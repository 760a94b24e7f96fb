use Rattle.bidi_base.proofs.Common.{arith, len_utf8, chars, get_or_default, length_push}
use Rattle.bidi_base.proofs.UnitIndexLemmas.{index_turn, index_end}
use Rattle.bidi_text.proofs.StrLemmas.{has_units, text_len-chars}
use Rattle.bidi_show_run.proofs.ShownLemmas.{levels_so_far-more, levels_so_far-end}
use Rattle.bidi_show_run.proofs.shown.push_levels.Goals as goal

pub bounds-levels-at : goal.bounds-levels-at
bounds-levels-at c =
    let all = rw c.new.ensures at c.char_indices-at-items.ensures in
    let w = index_turn len_utf8 (chars c.args.text.now) all c.into_iter-at-iterator.ensures.into_iter_gives c.loop-at.yielded _ c.loop-at.yielded_by _ _ c.in-Some.at c.in-Some.field-0-1 c.in-Some.is c.next.ensures.steps in
    omega (arith, w.fits, has_units c.in-Some.field-0-1, text_len-chars c.args.text.now c.utf8.text, c.requires)

pub loop-at-preserved : goal.loop-at-preserved
loop-at-preserved c =
    let all = rw c.new.ensures at c.char_indices-at-items.ensures in
    let w = index_turn len_utf8 (chars c.args.text.now) all c.into_iter-at-iterator.ensures.into_iter_gives c.loop-at.yielded _ c.loop-at.yielded_by _ _ c.in-Some.at c.in-Some.field-0-1 c.in-Some.is c.next.ensures.steps in
    grind (arith, w, has_units c.in-Some.field-0-1, text_len-chars, get_or_default, levels_so_far-more, length_push)

pub returns : goal.returns
returns c =
    let all = rw c.new.ensures at c.char_indices-at-items.ensures in
    let last = index_end len_utf8 (chars c.args.text.now) all c.into_iter-at-iterator.ensures.into_iter_gives c.loop-at.yielded _ c.loop-at.yielded_by _ _ c.in-None.is c.next.ensures.steps in
    grind (arith, last, levels_so_far-end)
