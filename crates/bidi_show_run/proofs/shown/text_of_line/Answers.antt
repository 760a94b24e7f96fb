use Rattle.bidi_base.proofs.Common.{arith}
use Rattle.bidi_text.proofs.StrLemmas.{IsCharBoundary-from_is_boundary}
use Rattle.bidi_show_run.proofs.shown.text_of_line.Goals as goal

pub range-requires : goal.range-requires
range-requires c = grind (arith, IsCharBoundary-from_is_boundary c.args.text.now)
