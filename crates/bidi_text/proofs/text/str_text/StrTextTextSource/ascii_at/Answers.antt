use Rattle.bidi_base.proofs.Common.{arith}
use Rattle.bidi_text.proofs.StrLemmas.{ascii_at-byte, ascii_at-past}
use Rattle.bidi_text.proofs.text.str_text.StrTextTextSource.ascii_at.Goals as goal

pub returns-in_err-byte : goal.returns-in_err-byte
returns-in_err-byte c = grind (arith, ascii_at-past)

pub returns-then-is_ascii : goal.returns-then-is_ascii
returns-then-is_ascii c = grind (arith, ascii_at-byte)

pub returns-else-is_ascii : goal.returns-else-is_ascii
returns-else-is_ascii c = grind (arith, ascii_at-byte)
