use Rattle.bidi_shown.proofs.stream.Stream.show_pending.Goals as goal

pub returns-in-Err-clause-fault : goal.returns-in-Err-clause-fault
returns-in-Err-clause-fault c = rw c.as_slice-bytes.ensures.value at (c.after.ensures c.as_slice-bytes.result.now c.in-Err.ensures.fault)
