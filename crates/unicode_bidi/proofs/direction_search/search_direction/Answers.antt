use Rattle.bidi_base.proofs.Common.{Bool, ◌≡◌, ◌∙◌, ◌+◌, ◌≤◌, ◌∷◌, ◌++◌, [], ℕ, List, length, drop, map, sym, ap, arith, rules, length_push, drop_all, unit_index}
use Rattle.bidi_base.specs.declared.char_data.BidiClass.{BidiClass}
use Rattle.bidi_base.proofs.TextLemmas.{length-le-text_len}
use Rattle.bidi_base.proofs.UnitIndexLemmas.{char_turn, char_end, CharTurn}
use Rattle.unicode_bidi.proofs.SearchLemmas.{step-le, searched-step, over_with, searched-front}
use Rattle.unicode_bidi.specs.declared.direction_search.DirectionSearch.{DirectionSearch}
use Rattle.unicode_bidi.specs.declared.direction_search.DirectionSearch.TheVariants.{Open}
use Rattle.unicode_bidi.specs.DirectionSearch.{direction_after, direction_with, IsSearched}
use Rattle.unicode_bidi.proofs.direction_search.search_direction.Given.{Over}
use Rattle.unicode_bidi.proofs.direction_search.search_direction.Goals as goal
use Rattle.unicode_bidi.proofs.direction_search.search_direction.Goals.{In-Some}

-- the character that comes
turn_of : (g : Over) (c : In-Some g)
    → CharTurn g.T.TextSource.encoding.len_of (g.T.TextSource.text c.args.text).chars (length c.loop-c.yielded) (unit_index g.T.TextSource.encoding.len_of (g.T.TextSource.text c.args.text).chars (length c.loop-c.yielded)) c.in-Some.c
turn_of g c = search (rules, char_turn)

pub search_class-requires : goal.search_class-requires
search_class-requires g c =
    let w = turn_of g (goal.at.search_class-requires g c).In-Some in
    omega (arith, w.within, c.loop-c.invariant.2, length-le-text_len g.T.TextSource.encoding.len_of g.T.TextSource.encoding.positive (g.T.TextSource.text c.args.text).chars, c.requires)

-- the search goes on from the character that comes
on : (full : Bool) (f : ℕ → BidiClass) (cs : List ℕ) (n c : ℕ) → drop n cs ≡ c ∷ drop (n + 1) cs → (class : BidiClass) → class ≡ f c
    → (now : ℕ) (step : DirectionSearch) → IsSearched full now (class ∷ []) step → (more : List BidiClass)
    → direction_after full now (map f (drop n cs) ++ more) ≡ direction_with full step (map f (drop (n + 1) cs) ++ more)
on full f cs n c next class same now step is more = rw (next, ← same) (is (map f (drop (n + 1) cs) ++ more))

pub loop-c-preserved : goal.loop-c-preserved
loop-c-preserved g c =
    let source = g.D.BidiDataSource.source c.args.data_source.now in
    let cs : List ℕ = (g.T.TextSource.text c.args.text).chars in
    let n : ℕ = length c.loop-c.yielded in
    let w = turn_of g (goal.at.loop-c-preserved g c).In-Some in
    let longer : length (c.loop-c.yielded ++ c.in-Some.c ∷ []) ≡ n + 1 = length_push c.loop-c.yielded c.in-Some.c in
    let few : c.in-Open.after ≤ c.loop-c.now + 1 = step-le c.args.full c.loop-c.now c.bidi_class.result c.in-Open.after (sym (searched-step c.args.full c.loop-c.now c.bidi_class.result c.search_class.result c.search_class.ensures) ∙ c.in-Open.is) in (
      c.in-Some.ensures.goes.keeps,
      (c.in-Some.ensures.goes.on c.loop-c.invariant.1).1,
      omega (arith, few, longer, c.loop-c.invariant.2),
      λ more. rw longer (c.loop-c.invariant.3 more
          ∙ on c.args.full source.class_of cs n c.in-Some.c w.next c.bidi_class.result c.bidi_class.ensures c.loop-c.now c.search_class.result c.search_class.ensures more
          ∙ ap (λ step. direction_with c.args.full step (map source.class_of (drop (n + 1) cs) ++ more)) c.in-Open.is),
    )

pub returns-in_default-clause-search : goal.returns-in_default-clause-search
returns-in_default-clause-search g c =
    let source = g.D.BidiDataSource.source c.args.data_source.now in
    let cs : List ℕ = (g.T.TextSource.text c.args.text).chars in
    let n : ℕ = length c.loop-c.yielded in
    let w = turn_of g (goal.at.returns-in_default-clause-search g c).In-Some in
    λ more. c.loop-c.invariant.3 more
    ∙ on c.args.full source.class_of cs n c.in-Some.c w.next c.bidi_class.result c.bidi_class.ensures c.loop-c.now c.search_class.result c.search_class.ensures more
    ∙ over_with c.args.full c.search_class.result c.in_default.not-Open _ more

pub returns-clause-search : goal.returns-clause-search
returns-clause-search g c =
    let source = g.D.BidiDataSource.source c.args.data_source.now in
    let cs : List ℕ = (g.T.TextSource.text c.args.text).chars in
    let n : ℕ = length c.loop-c.yielded in
    let all : n ≡ length cs = char_end cs c.chars-c-items.ensures c.into_iter-c-iterator.ensures.into_iter_gives c.loop-c.yielded _ c.loop-c.yielded_by _ _ c.in-None.is c.next.ensures.steps in
    λ more. rw (drop_all n cs (omega arith)) at (c.loop-c.invariant.3 more)

pub returns-in_default-clause-direction : goal.returns-in_default-clause-direction
returns-in_default-clause-direction g c = searched-front (g.D.BidiDataSource.source c.args.data_source.now) c.args.full (g.T.TextSource.text c.args.text).chars c.args.depth c.search_class.result (returns-in_default-clause-search g c)

pub returns-clause-direction : goal.returns-clause-direction
returns-clause-direction g c = searched-front (g.D.BidiDataSource.source c.args.data_source.now) c.args.full (g.T.TextSource.text c.args.text).chars c.args.depth (Open c.loop-c.now) (returns-clause-search g c)
