use Rattle.bidi_base.proofs.Common.{sym, arith}
use Rattle.bidi_laws.proofs.SuccessorLemmas.{kept_before-is, kept_before-is_None}
use Rattle.bidi_plain.proofs.plain.run_sequences.kept_before.Goals as goal

pub returns-then-not-is_removed-clause-kept : goal.returns-then-not-is_removed-clause-kept
returns-then-not-is_removed-clause-kept c = grind (arith, kept_before-is)

pub returns-clause-kept : goal.returns-clause-kept
returns-clause-kept c = sym (kept_before-is_None c.args.classes.now c.args.place (λ k below. c.loop-p.invariant k (omega arith) below))
