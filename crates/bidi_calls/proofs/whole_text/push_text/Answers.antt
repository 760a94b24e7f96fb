use Rattle.bidi_base.proofs.Common.{◌∙◌, ◌++◌, ℕ, List, ap, flat_map}
use Rattle.std.proofs.lemmas.List.{flat_map_more}
use Rattle.bidi_base.proofs.GivesLemmas.{end}
use Rattle.bidi_calls.proofs.whole_text.push_text.Goals as goal

pub loop-c-preserved : goal.loop-c-preserved
loop-c-preserved g c = (
  c.in-Some.ensures.goes.keeps,
  (c.in-Some.ensures.goes.on c.loop-c.invariant.1).1,
  c.in_ok-push_char.ensures
      ∙ ap (λ (us : List _). us ++ g.T.LineText.encode c.in-Some.c) c.loop-c.invariant.2
      ∙ flat_map_more g.T.LineText.encode c.args.out.now.items c.loop-c.yielded c.in-Some.c,
)

pub returns : goal.returns
returns g c =
    let all = end c.chars-c-items.ensures c.into_iter-c-iterator.ensures.into_iter_gives c.loop-c.yielded _ c.loop-c.yielded_by _ _ c.in-None.is c.next.ensures.steps in
    c.loop-c.invariant.2 ∙ ap (λ (cs : List ℕ). c.args.out.now.items ++ flat_map g.T.LineText.encode cs) all
