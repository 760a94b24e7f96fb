use Rattle.bidi_base.proofs.UnitIndexLemmas.{text_len-one_unit}
use Rattle.bidi_calls.proofs.counted.Utf32TextCountedText.has_one_unit_each.Goals as goal

pub returns : goal.returns
returns c = λ _. text_len-one_unit c.args.self.numbers.now
