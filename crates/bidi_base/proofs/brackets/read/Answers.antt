-- What a bracket does to a search that is under way.
use Rattle.bidi_base.proofs.Common.{◌≡◌, ◌==◌, Bool, List, Result, get_or, None, sym, subst, ◌∙◌, arith, common_steps, get_or_default, Waiting, find_last, ltb-true}
use Rattle.std.specs.Result.{IfOk}
use Rattle.std.specs.declared.alloc.AllocError.{AllocError}
use Rattle.std.proofs.lemmas.Bool.{ltb-false}
use Rattle.bidi_base.proofs.BracketSearch.{IsAt-opening, IsAt-unmatched, IsAt-pair, IsAt-full}
use Rattle.bidi_base.proofs.brackets.read.Goals as goal

-- what holds of an answer, if there is one
if_answered : (r : Result Bool AllocError) (P Q S T U : Bool → Type 0) → IfOk r P → IfOk r Q → IfOk r S → IfOk r T → ((b : Bool) → P b → Q b → S b → T b → U b) → IfOk r U
if_answered r P Q S T U p q s t f = grind arith

pub returns-then-bracket-clause-within : goal.returns-then-bracket-clause-within
returns-then-bracket-clause-within c = grind (arith, common_steps)

pub returns-then-bracket-clause-goes_on : goal.returns-then-bracket-clause-goes_on
returns-then-bracket-clause-goes_on c =
    let o = c.open.ensures in
    if_answered c.open.result _ _ _ _ _ o.room o.waiting o.pairs o.full (λ more room opened paired full yes' counted rest at.
    rw (paired yes', opened yes') (IsAt-opening counted _ _ c.args.bracket.now rest at c.if-bracket.true (ltb-true _ 63 (sym room ∙ yes'))))

pub returns-then-bracket-clause-ended : goal.returns-then-bracket-clause-ended
returns-then-bracket-clause-ended c =
    let o = c.open.ensures in
    if_answered c.open.result _ _ _ _ _ o.room o.waiting o.pairs o.full (λ more room opened paired full no' counted rest at.
    rw (full no').1 (IsAt-full counted _ _ c.args.bracket.now rest at c.if-bracket.true (ltb-false _ 63 (sym room ∙ no'))))

pub returns-in-Some-clause-within : goal.returns-in-Some-clause-within
returns-in-Some-clause-within c = grind (arith, common_steps)

pub returns-in-Some-clause-goes_on : goal.returns-in-Some-clause-goes_on
returns-in-Some-clause-goes_on c = λ _ counted rest h.
    let k = c.in-Some.entry in
    let e = get_or c.as_slice-in-Some.result.now k (record { opening = 0; pair = 0 }) in
    let hit = rw c.as_slice.ensures.value at c.in-Some.ensures.found in
    rw c.truncate.ensures.items (IsAt-pair counted c.args.pairs.now.items c.args.waiting.now.items c.args.bracket.now rest k e c.index_mut.result.now h
    c.if-bracket.false hit.0 hit.1 (grind (arith, get_or_default)) c.index_mut.ensures.value)

pub returns-in_default-clause-goes_on : goal.returns-in_default-clause-goes_on
returns-in_default-clause-goes_on c = λ _ counted rest h.
    IsAt-unmatched counted c.args.pairs.now.items c.args.waiting.now.items c.args.bracket.now rest h c.if-bracket.false
    (subst (λ (ws : List Waiting). find_last (λ (x : Waiting). x.opening == c.args.bracket.now.opening) ws ≡ None) c.as_slice.ensures.value c.in_default.ensures.none)
