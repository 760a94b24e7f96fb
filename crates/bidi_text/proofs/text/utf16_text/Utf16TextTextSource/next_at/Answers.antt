use Rattle.bidi_base.proofs.Common.{arith, nat_tests}
use Rattle.bidi_text.proofs.Utf16Lemmas.{text_len-utf16, char_at-next}
use Rattle.bidi_text.proofs.text.utf16_text.Utf16TextTextSource.next_at.Goals as goal

pub offset_bounds-units-index : goal.offset_bounds-units-index
offset_bounds-units-index c = grind (arith, text_len-utf16)

pub bounds-units-index : goal.bounds-units-index
bounds-units-index c = grind (arith, text_len-utf16)

pub returns-in-Some : goal.returns-in-Some
returns-in-Some c = grind (arith, nat_tests, char_at-next c.args.self.now.units.now c.args.index c.requires.begins c.requires.before_last)

pub bounds-units-index-2 : goal.bounds-units-index-2
bounds-units-index-2 c = grind (arith, text_len-utf16)

pub returns-then-is_pair : goal.returns-then-is_pair
returns-then-is_pair c = grind (arith, char_at-next c.args.self.now.units.now c.args.index c.requires.begins c.requires.before_last)

pub returns-else-is_pair : goal.returns-else-is_pair
returns-else-is_pair c = grind (arith, nat_tests, char_at-next c.args.self.now.units.now c.args.index c.requires.begins c.requires.before_last)
