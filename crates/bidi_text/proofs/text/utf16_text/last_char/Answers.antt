use Rattle.bidi_base.proofs.Common.{arith}
use Rattle.bidi_text.proofs.Utf16Ends.{IsLast-lone, IsLast-pair}
use Rattle.bidi_text.proofs.text.utf16_text.last_char.Goals as goal

pub returns-then-splits_pair : goal.returns-then-splits_pair
returns-then-splits_pair c = grind (arith, IsLast-pair c.args.units.now c.in_ok-last.last)

pub returns-else-splits_pair : goal.returns-else-splits_pair
returns-else-splits_pair c = grind (arith, IsLast-lone c.args.units.now c.in_ok-last.last)
