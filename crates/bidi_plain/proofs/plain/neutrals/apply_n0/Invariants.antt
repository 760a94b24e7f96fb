use Rattle.bidi_base.proofs.Common.{◌≡◌, take, n0}
use Rattle.bidi_plain.proofs.plain.neutrals.apply_n0.Given as goal

abbrev pub invariant-loop-pair : goal.invariant-loop-pair
invariant-loop-pair l = l.classes ≡ n0 l.fn.embedding_direction l.fn.sos l.fn.source (take l.pair-index l.fn.pairs) l.fn.classes
