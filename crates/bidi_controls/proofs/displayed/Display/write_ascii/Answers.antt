use Rattle.bidi_base.proofs.Common.{arith}
use Rattle.bidi_controls.proofs.LineLevels.{order-within}
use Rattle.bidi_controls.proofs.displayed.Display.write_ascii.Goals as goal

pub write_ascii_in_order-requires-clause-indexes : goal.write_ascii_in_order-requires-clause-indexes
write_ascii_in_order-requires-clause-indexes c = grind (arith, order-within)
