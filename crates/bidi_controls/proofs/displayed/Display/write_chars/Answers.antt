use Rattle.bidi_base.proofs.Common.{arith}
use Rattle.bidi_controls.proofs.LineLevels.{order-within}
use Rattle.bidi_controls.proofs.displayed.Display.write_chars.Goals as goal

pub write_in_order-requires-clause-indexes : goal.write_in_order-requires-clause-indexes
write_in_order-requires-clause-indexes g c = grind (arith, order-within)
