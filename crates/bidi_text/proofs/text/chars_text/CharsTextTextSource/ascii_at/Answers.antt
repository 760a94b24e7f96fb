use Rattle.bidi_base.proofs.Common.{arith}
use Rattle.bidi_text.proofs.CharsLemmas.{char_at-one_unit, char_at-past}
use Rattle.bidi_text.proofs.text.chars_text.CharsTextTextSource.ascii_at.Goals as goal

pub returns-in_err-c : goal.returns-in_err-c
returns-in_err-c c = grind (arith, char_at-past)

pub returns-then-is_ascii : goal.returns-then-is_ascii
returns-then-is_ascii c = grind (arith, char_at-one_unit)

pub returns-else-is_ascii : goal.returns-else-is_ascii
returns-else-is_ascii c = grind (arith, char_at-one_unit)
