use Rattle.bidi_base.proofs.Common.{map, arith, length-map}
use Rattle.bidi_text.specs.WideText.{char_of_number}
use Rattle.bidi_text.proofs.WideLemmas.{text_len-wide}
use Rattle.bidi_text.proofs.tests.WideTextIndexedText.len.Goals as goal

pub returns : goal.returns
returns c =
    let numbers = c.args.self.now.numbers.now in
    omega (arith, text_len-wide (map char_of_number numbers), length-map numbers char_of_number)
