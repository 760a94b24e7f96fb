use Rattle.bidi_base.proofs.Common.{◌≡◌, ℕ, ◌<◌, ◌+◌, List, length, get_or, drop, reverse, None, unwrap_or, Option, sym, ap, ◌∙◌, arith, common_steps}
use Rattle.bidi_base.proofs.Common.{YieldsList-turn, YieldsList-end, at_drop_all, length_push, BidiClass, as_direction, nearest_direction}
use Rattle.std.proofs.lemmas.Iterator.Adapters.{YieldsList-from_rev_slice}
use Rattle.bidi_base.proofs.neutrals.nearest_direction.Goals as goal

-- what the next class says
nearest_direction-drop : (d : BidiClass) (all : List BidiClass) (n : ℕ) (c : BidiClass) (o : Option BidiClass) → (n < length all) × (c ≡ get_or all n c) → o ≡ as_direction c
    → nearest_direction d (drop n all) ≡ unwrap_or o (nearest_direction d (drop (n + 1) all))
nearest_direction-drop d all n c o h is = grind (arith, common_steps)

pub returns-in-Some-as_direction : goal.returns-in-Some-as_direction
returns-in-Some-as_direction c =
    let t = YieldsList-turn (YieldsList-from_rev_slice c.args.classes.now cc) c.loop-class.yielded _ c.loop-class.yielded_by _ _ c.in-Some.class c.in-Some.is c.next.ensures.steps in
    sym (c.loop-class.invariant ∙ nearest_direction-drop c.args.before (reverse c.args.classes.now) (length c.loop-class.yielded) c.in-Some.class.now _ t (sym c.in-Some-as_direction.is ∙ c.as_direction.ensures))

pub loop-class-preserved : goal.loop-class-preserved
loop-class-preserved c =
    let t = YieldsList-turn (YieldsList-from_rev_slice c.args.classes.now cc) c.loop-class.yielded _ c.loop-class.yielded_by _ _ c.in-Some.class c.in-Some.is c.next.ensures.steps in
    c.loop-class.invariant
    ∙ nearest_direction-drop c.args.before (reverse c.args.classes.now) (length c.loop-class.yielded) c.in-Some.class.now None t (sym c.in_default.is ∙ c.as_direction.ensures)
    ∙ ap (λ n. nearest_direction c.args.before (drop n (reverse c.args.classes.now))) (sym (length_push c.loop-class.yielded c.in-Some.class))

pub returns : goal.returns
returns c =
    let t = YieldsList-end (YieldsList-from_rev_slice c.args.classes.now cc) c.loop-class.yielded _ c.loop-class.yielded_by _ _ c.in-None.is c.next.ensures.steps in
    sym (c.loop-class.invariant ∙ at_drop_all (nearest_direction c.args.before) (reverse c.args.classes.now) (length c.loop-class.yielded) (omega (arith, t.1)))
