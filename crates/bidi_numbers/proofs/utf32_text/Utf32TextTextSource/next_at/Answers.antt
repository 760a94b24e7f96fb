use Rattle.bidi_base.proofs.Common.{◌<◌, length, arith}
use Rattle.bidi_base.proofs.UnitIndexLemmas.{text_len-one_unit}
use Rattle.bidi_text.proofs.CharsLemmas.{char_at-one_unit}
use Rattle.bidi_numbers.proofs.utf32_text.Utf32TextTextSource.next_at.Goals as goal

pub at-requires : goal.at-requires
at-requires c = omega (arith, text_len-one_unit c.args.self.now.numbers.now)

pub returns : goal.returns
returns c =
    let within : c.args.index < length c.args.self.now.numbers.now = omega (arith, text_len-one_unit c.args.self.now.numbers.now) in
    grind (arith, char_at-one_unit)
