use Rattle.bidi_base.proofs.Common.{length}
use Rattle.bidi_plain.proofs.plain.embeddings.+status_inside.Given as goal

abbrev pub decreases-status_inside : goal.decreases-status_inside
decreases-status_inside l = length l.openers.now
