use Rattle.bidi_base.proofs.Common.{◌≡◌, ◌++◌, None, drop, at_indexes}
use Rattle.bidi_explain.proofs.stages.brackets_at.Given as goal

abbrev pub invariant-loop-place : goal.invariant-loop-place
invariant-loop-place l = l.found.items ++ at_indexes None l.brackets (drop l.place-index l.places) ≡ at_indexes None l.brackets l.places
