use Rattle.bidi_base.proofs.Common.{◌≡◌, map, with_ends}
use Rattle.bidi_plain.proofs.plain.run_sequences.sequences.Given as goal

abbrev pub invariant-loop-places : goal.invariant-loop-places
invariant-loop-places l = l.sequences.items ≡ map (λ v. with_ends l.para_level l.classes l.levels v.items) l.yielded
