use Rattle.bidi_base.proofs.Common.{◌∙◌, ◌++◌, ℕ, List, ap, flat_map, encode_utf8}
use Rattle.std.proofs.Common.{string_bytes}
use Rattle.std.proofs.lemmas.List.{flat_map_more}
use Rattle.bidi_base.proofs.GivesLemmas.{end}
use Rattle.bidi_display.proofs.text_display.push_chars.Goals as goal

pub loop-c-preserved : goal.loop-c-preserved
loop-c-preserved g c = (
  c.in-Some.ensures.goes.keeps,
  (c.in-Some.ensures.goes.on c.loop-c.invariant.1).1,
  c.in_ok-push.ensures.bytes
      ∙ ap (λ (bytes : List ℕ). bytes ++ encode_utf8 c.in-Some.c) c.loop-c.invariant.2
      ∙ flat_map_more encode_utf8 (string_bytes c.args.out.now) c.loop-c.yielded c.in-Some.c,
)

pub returns-clause-text : goal.returns-clause-text
returns-clause-text g c =
    let all = end c.chars-c-items.ensures c.into_iter-c-iterator.ensures.into_iter_gives c.loop-c.yielded _ c.loop-c.yielded_by _ _ c.in-None.is c.next.ensures.steps in
    c.loop-c.invariant.2 ∙ ap (λ (cs : List ℕ). string_bytes c.args.out.now ++ flat_map encode_utf8 cs) all
