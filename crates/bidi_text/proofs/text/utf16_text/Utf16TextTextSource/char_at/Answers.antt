use Rattle.bidi_base.proofs.Common.{arith, length-drop, take_all}
use Rattle.bidi_text.proofs.Utf16Lemmas.{char_at-inside, char_at-past, char_at-first, char_at-cut, NoPairAt-from_splits_pair}
use Rattle.bidi_text.proofs.text.utf16_text.Utf16TextTextSource.char_at.Goals as goal
use Rattle.bidi_text.proofs.text.utf16_text.Utf16TextTextSource.char_at.Goals.{then-index-units-via-then-index-units, then-index-units-via-else-index-units+then-splits_pair}

pub returns-then-index-units : goal.returns-then-index-units
returns-then-index-units c = grind (arith, char_at-past, char_at-inside)

pub returns : goal.returns
returns c = grind (arith, take_all, length-drop, char_at-first, char_at-cut, NoPairAt-from_splits_pair)
