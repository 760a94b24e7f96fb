use Rattle.bidi_base.proofs.Common.{length}
use Rattle.bidi.proofs.walk.visit_directory.Given as goal

abbrev pub decreases-loop-path : goal.decreases-loop-path
decreases-loop-path g l = length l.below.items
