use Rattle.bidi_base.proofs.Common.{reverse, ap, arith}
use Rattle.bidi_controls.proofs.OpenersLemmas.{isolates_in, isolates_in-some, isolates_in-none}
use Rattle.bidi_controls.proofs.openers.Openers.close_isolate.Goals as goal

pub returns-then-self-eq0-clause-place : goal.returns-then-self-eq0-clause-place
returns-then-self-eq0-clause-place c = grind (arith, isolates_in-none)

pub returns-then-self-eq0-clause-left : goal.returns-then-self-eq0-clause-left
returns-then-self-eq0-clause-left c = grind (arith, returns-then-self-eq0-clause-place)

pub invariant_of-self : goal.invariant_of-self
invariant_of-self c =
    let some = isolates_in-some (reverse c.self.inside.entries.items) (omega (arith, c.self.invariant, c.if-self-eq0.false)) in
    omega (arith, some.fewer, ap isolates_in c.take_isolate.ensures.left, c.self.invariant)

pub returns-clause-left : goal.returns-clause-left
returns-clause-left c = grind (arith, isolates_in-some)
