use Rattle.bidi_base.proofs.Common.{map}
use Rattle.bidi_plain.proofs.ListPass.{IsStateAt}
use Rattle.bidi_plain.proofs.plain.run_sequences.sequence_places.Given as goal

abbrev pub invariant-loop-place : goal.invariant-loop-place
invariant-loop-place l = IsStateAt l.classes l.levels l.place (map (λ v. v.items) l.sequences.items) l.waiting.items l.last
