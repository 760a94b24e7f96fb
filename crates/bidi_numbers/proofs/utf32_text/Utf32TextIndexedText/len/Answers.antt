use Rattle.bidi_base.proofs.Common.{sym}
use Rattle.bidi_base.proofs.UnitIndexLemmas.{text_len-one_unit}
use Rattle.bidi_numbers.proofs.utf32_text.Utf32TextIndexedText.len.Goals as goal

pub returns : goal.returns
returns c = sym (text_len-one_unit c.args.self.now.numbers.now)
