use Rattle.bidi_base.proofs.Common.{get_or_default, arith}
use Rattle.bidi_explicit.proofs.WalkLemmas.{backwards-start, backwards-in_order}
use Rattle.bidi_explicit.proofs.prepare.sequence.IsolatingRunSequence.iter_backwards_from.Goals as goal

pub invariant_of-result : goal.invariant_of-result
invariant_of-result c = grind (arith, backwards-in_order)

pub returns : goal.returns
returns c = grind (arith, backwards-start, get_or_default)
