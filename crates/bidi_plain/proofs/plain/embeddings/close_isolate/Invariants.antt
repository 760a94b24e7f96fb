use Rattle.bidi_base.proofs.Common.{◌≡◌, reverse, vec_len, outside_isolate}
use Rattle.bidi_plain.proofs.plain.embeddings.close_isolate.Given as goal

abbrev pub invariant-loop-opener : goal.invariant-loop-opener
invariant-loop-opener l = outside_isolate (reverse l.classes.items) ≡ outside_isolate (reverse l.fn.classes.items)

abbrev pub decreases-loop-opener : goal.decreases-loop-opener
decreases-loop-opener l = vec_len l.classes
