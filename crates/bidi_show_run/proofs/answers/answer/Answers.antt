use Rattle.bidi_show_run.proofs.ReadLemmas.{reported_of_all}
use Rattle.bidi_show_run.proofs.answers.answer.Goals as goal

pub returns-in_ok-bytes-in-Show-clause-not_utf8 : goal.returns-in_ok-bytes-in-Show-clause-not_utf8
returns-in_ok-bytes-in-Show-clause-not_utf8 g c =
    let read = c.in_ok-bytes-in-Show.ensures in
    reported_of_all _ _ _ _ _ _ read.read read.ended (rw (c.as_slice.ensures.value) at c.answer_show.ensures.not_utf8)
