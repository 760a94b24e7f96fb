use Rattle.bidi_base.proofs.Common.{◌≡◌, ◌+◌, drop}
use Rattle.bidi_shown.specs.Breaks.{leading_spaces}
use Rattle.bidi_shown.proofs.breaks.leading_spaces.Given as goal

abbrev pub invariant-loop-at : goal.invariant-loop-at
invariant-loop-at l = l.at + leading_spaces (drop l.at l.clusters) ≡ leading_spaces l.clusters
