use Rattle.bidi_base.proofs.Common.{arith}
use Rattle.bidi_text.proofs.CharsLemmas.{char_at-one_unit, char_at-past}
use Rattle.bidi_text.proofs.text.chars_text.CharsTextTextSource.char_at.Goals as goal

pub returns-in-Some : goal.returns-in-Some
returns-in-Some c = grind (arith, char_at-one_unit)

pub returns-in-None : goal.returns-in-None
returns-in-None c = grind (arith, char_at-past)
