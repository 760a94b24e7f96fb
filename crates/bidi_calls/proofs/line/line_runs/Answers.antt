use Rattle.bidi_base.proofs.Common.{arith, common_steps}
use Rattle.bidi_calls.proofs.RunStructs.{length-moved}
use Rattle.bidi_calls.proofs.line.line_runs.Goals as goal

pub returns-in_err-check_room_or_none-clause-fault : goal.returns-in_err-check_room_or_none-clause-fault
returns-in_err-check_room_or_none-clause-fault c = grind (arith, common_steps, length-moved)

pub returns-clause-count : goal.returns-clause-count
returns-clause-count c = grind (arith, common_steps, length-moved)
