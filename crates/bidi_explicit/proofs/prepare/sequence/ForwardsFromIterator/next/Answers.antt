-- The next unit: of the range that the walk is in, or the first one of the next range.
use Rattle.bidi_base.proofs.Common.{map, ap, arith, bounds}
use Rattle.bidi_explicit.specs.RunSequence.{forwards_left}
use Rattle.bidi_explicit.proofs.WalkLemmas.{forwards_run, later_ranges, walks_on}
use Rattle.bidi_explicit.proofs.prepare.sequence.ForwardsFromIterator.next.Goals as goal

pub invariant_of-self-2 : goal.invariant_of-self-2
invariant_of-self-2 c = grind (arith, later_ranges) steps 400000

pub returns-clause-steps : goal.returns-clause-steps
returns-clause-steps c =
    forwards_run c.args.self.now.at c.args.self.now.end (map bounds c.args.self.now.later.now) (map bounds c.in_ok-run.later.now) (bounds c.in_ok-run.run'.now) c.if-self.false c.args.self.now.in_order (ap (map bounds) c.in_ok-run.ensures.cases.0)

pub returns-clause-goes : goal.returns-clause-goes
returns-clause-goes c = walks_on _ forwards_left c.args.self.now _ _ (returns-clause-steps c) tt
