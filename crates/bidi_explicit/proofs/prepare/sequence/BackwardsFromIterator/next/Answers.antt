-- The next unit downwards: of the range that the walk is in, or the last one of the range before it.
use Rattle.bidi_base.proofs.Common.{map, [], ◌∷◌, ap, ◌∙◌, arith, map-append, bounds}
use Rattle.bidi_explicit.specs.RunSequence.{backwards_left}
use Rattle.bidi_explicit.proofs.WalkLemmas.{backwards_unit, backwards_run, earlier_ranges, walks_on}
use Rattle.bidi_explicit.proofs.prepare.sequence.BackwardsFromIterator.next.Goals as goal

pub returns-then-self-clause-steps : goal.returns-then-self-clause-steps
returns-then-self-clause-steps c = grind (arith, backwards_unit) steps 400000

pub returns-then-self-clause-goes : goal.returns-then-self-clause-goes
returns-then-self-clause-goes c = grind (arith, returns-then-self-clause-steps) steps 400000

pub overflow_sub-unit : goal.overflow_sub-unit
overflow_sub-unit c =
    let parts = earlier_ranges c.args.self.now.earlier.now c.in_ok-run.earlier.now c.in_ok-run.run'.now c.in_ok-run.ensures.cases.0 c.args.self.now.in_order in
    omega (arith, parts.1)

pub invariant_of-self-2 : goal.invariant_of-self-2
invariant_of-self-2 c = grind (arith, earlier_ranges) steps 400000

pub returns-clause-steps : goal.returns-clause-steps
returns-clause-steps c =
    backwards_run c.args.self.now.start c.args.self.now.at (map bounds c.args.self.now.earlier.now) (map bounds c.in_ok-run.earlier.now) (bounds c.in_ok-run.run'.now) c.if-self.false c.args.self.now.in_order
    (ap (map bounds) c.in_ok-run.ensures.cases.0 ∙ map-append bounds c.in_ok-run.earlier.now (c.in_ok-run.run'.now ∷ []))

pub returns-clause-goes : goal.returns-clause-goes
returns-clause-goes c = walks_on _ backwards_left c.args.self.now _ _ (returns-clause-steps c) tt
