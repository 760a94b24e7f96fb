use Rattle.bidi_base.proofs.Common.{sym, arith}
use Rattle.bidi_laws.proofs.SuccessorLemmas.{next_kept-is, next_kept-is_None}
use Rattle.bidi_plain.proofs.plain.run_sequences.next_kept.Goals as goal

pub returns-then-not-is_removed-clause-kept : goal.returns-then-not-is_removed-clause-kept
returns-then-not-is_removed-clause-kept c = grind (arith, next_kept-is)

pub returns-clause-kept : goal.returns-clause-kept
returns-clause-kept c = sym (next_kept-is_None c.args.classes.now c.args.place (λ k from below. c.loop-p.invariant k from (omega arith)))
