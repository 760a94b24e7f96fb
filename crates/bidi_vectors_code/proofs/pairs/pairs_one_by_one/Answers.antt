use Rattle.bidi_base.proofs.Common.{[]}
use Rattle.bidi_vectors_code.proofs.pairs.pairs_one_by_one.Goals as goal

pub read-requires-2 : goal.read-requires-2
read-requires-2 g c = (_, c.in_ok-read.ensures [] c.new-search.ensures)
