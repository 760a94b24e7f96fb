use Rattle.bidi_base.proofs.Common.{◌≡◌, ◌++◌, drop, at_indexes}
use Rattle.bidi_base.specs.declared.char_data.BidiClass.TheVariants.{L}
use Rattle.bidi_explain.proofs.stages.classes_at.Given as goal

abbrev pub invariant-loop-place : goal.invariant-loop-place
invariant-loop-place l = l.found.items ++ at_indexes L l.classes (drop l.place-index l.places) ≡ at_indexes L l.classes l.places
