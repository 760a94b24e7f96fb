use Rattle.std.proofs.Common.{rules}
use Rattle.bidi_base.proofs.search.marks.Goals as goal

pub returns-clause-marked : goal.returns-clause-marked
returns-clause-marked g c = λ j below. let m = c.from_fn.ensures.items.at j 0 below in search rules
