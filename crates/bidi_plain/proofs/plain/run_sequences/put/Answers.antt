use Rattle.bidi_base.proofs.Common.{◌≡◌, ◌<◌, length, map, ℕ, List, [], ◌∷◌, ◌++◌, get_or, set, Option, Some, arith, IfSome, map-set, get_or-map, with_entry}
use Rattle.bidi_plain.proofs.plain.run_sequences.put.Goals as goal

grown : {X : Type 0} (f : X → List ℕ) (xs : List X) (o : Option ℕ) (s p : ℕ) (v old : X) → o ≡ Some s → IfSome o (λ s. s < length xs)
    → f v ≡ f old ++ p ∷ [] → old ≡ get_or xs s old → map f (set xs s v) ≡ with_entry o p (map f xs)
grown f xs o s p v old e within items is = grind (arith, map-set, get_or-map)

pub returns-in_ok-push-in-Some-clause-grown : goal.returns-in_ok-push-in-Some-clause-grown
returns-in_ok-push-in-Some-clause-grown c = grown (λ v. v.items) c.args.sequences.now.items c.args.s c.in-Some.s c.args.place c.push.new.self c.index_mut.result.now c.in-Some.is c.requires c.in_ok-push-in-Some.ensures.items c.index_mut.ensures.value
