use Rattle.bidi_base.proofs.Common.{arith}
use Rattle.bidi_text.proofs.CharsLemmas.{char_at-one_unit, char_at-past}
use Rattle.bidi_numbers.proofs.utf32_text.Utf32TextIndexedText.char_at.Goals as goal

pub returns-then-index-self : goal.returns-then-index-self
returns-then-index-self c = grind (arith, char_at-one_unit)

pub returns-else-index-self : goal.returns-else-index-self
returns-else-index-self c = grind (arith, char_at-past)
