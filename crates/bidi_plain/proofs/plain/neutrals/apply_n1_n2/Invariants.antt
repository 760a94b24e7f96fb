use Rattle.bidi_base.proofs.Common.{length, ◌-◌}
use Rattle.bidi_laws.proofs.NeutralBlocks.{IsAtNeutrals}
use Rattle.bidi_plain.proofs.plain.neutrals.apply_n1_n2.Given as goal

abbrev pub invariant-loop-start : goal.invariant-loop-start
invariant-loop-start l = IsAtNeutrals l.fn.embedding_direction l.fn.sos l.fn.eos l.fn.classes l.classes l.left l.start

abbrev pub decreases-loop-start : goal.decreases-loop-start
decreases-loop-start l = length l.initial.classes - l.start
