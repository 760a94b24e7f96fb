use Rattle.bidi_base.proofs.Common.{◌≡◌, ◌∙◌, ℕ, ◌+◌, [], get_or, drop, drop_all, map, sym, ap, arith}
use Rattle.bidi_numbers.specs.Numbers.{class_numbered}
use Rattle.unicode_bidi.specs.declared.direction_search.DirectionSearch.TheVariants.{Found, Open}
use Rattle.unicode_bidi.proofs.SearchLemmas.{search_in, search_on, search_step, searched-step, step-le}
use Rattle.bidi_calls.proofs.CharacterLemmas.{class_step, class_direction}
use Rattle.bidi_calls.proofs.characters.base_direction_of_classes.Goals as goal

pub returns-in-Found : goal.returns-in-Found
returns-in-Found c =
    let ns = c.args.classes.now in
    let i : ℕ = c.loop-class.class-index in
    let step : search_step c.args.full c.loop-class.depth (class_numbered (get_or ns i 0)) ≡ Found c.in-Found.direction =
    simp c.class_of.ensures at (sym (searched-step c.args.full c.loop-class.depth c.class_of.result c.search_class.result c.search_class.ensures) ∙ c.in-Found.is) in
    let found : search_in c.args.full 0 (map class_numbered ns) ≡ Found c.in-Found.direction =
    c.loop-class.invariant.1 ∙ class_step c.args.full c.loop-class.depth i ns c.loop-class-test.true
    ∙ ap (search_on (λ now. search_in c.args.full now (map class_numbered (drop (i + 1) ns)))) step in
    let is = rw found at (class_direction c.args.full ns) in
    grind (arith, c.check_classes.ensures, c.in_ok-check_classes.was, c.number_of_direction.ensures, is)

pub loop-class-preserved : goal.loop-class-preserved
loop-class-preserved c =
    let ns = c.args.classes.now in
    let i : ℕ = c.loop-class.class-index in
    let step : search_step c.args.full c.loop-class.depth (class_numbered (get_or ns i 0)) ≡ Open c.in-Open.now =
    simp c.class_of.ensures at (sym (searched-step c.args.full c.loop-class.depth c.class_of.result c.search_class.result c.search_class.ensures) ∙ c.in-Open.is) in
    let few = step-le c.args.full c.loop-class.depth (class_numbered (get_or ns i 0)) c.in-Open.now step in (
      omega (arith, few, c.loop-class.invariant.0),
      c.loop-class.invariant.1 ∙ class_step c.args.full c.loop-class.depth i ns c.loop-class-test.true
          ∙ ap (search_on (λ now. search_in c.args.full now (map class_numbered (drop (i + 1) ns)))) step,
    )

pub returns : goal.returns
returns c =
    let ns = c.args.classes.now in
    let none : drop c.loop-class.class-index ns ≡ [] = drop_all c.loop-class.class-index ns c.loop-class-test.false in
    let found : search_in c.args.full 0 (map class_numbered ns) ≡ Open c.loop-class.depth =
    c.loop-class.invariant.1 ∙ ap (λ ms. search_in c.args.full c.loop-class.depth (map class_numbered ms)) none in
    let is = rw found at (class_direction c.args.full ns) in
    grind (arith, c.check_classes.ensures, c.in_ok-check_classes.was, c.number_of_direction-2.ensures, is)
