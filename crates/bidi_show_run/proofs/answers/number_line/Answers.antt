use Rattle.bidi_base.proofs.Common.{append_assoc, arith}
use Rattle.bidi_show_run.proofs.TextsLemmas.{next_number}
use Rattle.bidi_show_run.proofs.answers.number_line.Goals as goal
use Rattle.bidi_show_run.proofs.answers.number_line.Goals.{then-place-gt0+in_ok-push, else-place-gt0}

pub loop-place-preserved : goal.loop-place-preserved
loop-place-preserved c = grind (arith, append_assoc, next_number)
