use Rattle.bidi_base.proofs.Common.{arith}
use Rattle.bidi_laws.proofs.LevelLaws.{length-stored_levels}
use Rattle.bidi_explain.proofs.StagesLemmas.{line_levels-long, order-within}
use Rattle.bidi_explain.proofs.PlacesLemmas.{places-long}
use Rattle.bidi_explain.proofs.explain.push_paragraph.Goals as goal

pub push_stages-requires-clause-levels_same_len : goal.push_stages-requires-clause-levels_same_len
push_stages-requires-clause-levels_same_len g c = grind (arith, line_levels-long, length-stored_levels)

pub push_stages-requires-clause-order : goal.push_stages-requires-clause-order
push_stages-requires-clause-order g c = grind (arith, order-within, length-stored_levels)

pub push_stages-requires-clause-places : goal.push_stages-requires-clause-places
push_stages-requires-clause-places g c = grind (arith, places-long, length-stored_levels)

pub returns : goal.returns
returns g c =
    record {
      stages = c.in_ok-stages.stages;
      are = simp (← c.level.ensures, ← c.own_chars-own.ensures) c.in_ok-stages.ensures;
      appended = simp (c.in_ok-push_stages.ensures, c.own_chars-own.ensures);
    }
