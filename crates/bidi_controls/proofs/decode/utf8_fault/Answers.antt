use Rattle.bidi_base.proofs.Common.{arith, utf8_valid_len-IsUtf8}
use Rattle.bidi_controls.proofs.decode.utf8_fault.Goals as goal

pub returns-in-Ok : goal.returns-in-Ok
returns-in-Ok c = grind (arith, utf8_valid_len-IsUtf8 c.args.bytes.now)
