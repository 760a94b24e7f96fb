use Rattle.bidi_base.proofs.Common.{refl, arith}
use Rattle.std.proofs.lemmas.Iterator.{YieldsList-from_range, items_from_collect}
use Rattle.bidi_lines.proofs.visual_order.indexes_below.Goals as goal

pub returns : goal.returns
returns c =
    items_from_collect _ c.collect.ensures.ran (YieldsList-from_range 0 c.args.n c.args.n refl (omega arith))
