use Rattle.bidi_base.proofs.Common.{arith}
use Rattle.bidi_show_run.proofs.PieceLines.{printed_in-shown}
use Rattle.bidi_show_run.proofs.shown.show.Goals as goal

pub returns : goal.returns
returns g c = grind (arith, printed_in-shown)
