use Rattle.bidi_base.proofs.Common.{◌<◌, length, arith}
use Rattle.bidi_base.proofs.UnitIndexLemmas.{text_len-one_unit}
use Rattle.bidi_text.proofs.CharsLemmas.{char_at-one_unit}
use Rattle.bidi_text.proofs.text.chars_text.CharsTextTextSource.next_at.Goals as goal

pub offset_bounds-self-index : goal.offset_bounds-self-index
offset_bounds-self-index c = omega (arith, c.requires.before_last, c.type_inv.self, text_len-one_unit c.args.self.now.list.now)

pub bounds-self-index : goal.bounds-self-index
bounds-self-index c = omega (arith, text_len-one_unit c.args.self.now.list.now)

pub returns : goal.returns
returns c =
    let within : c.args.index < length c.args.self.now.list.now = omega (arith, text_len-one_unit c.args.self.now.list.now) in
    grind (arith, char_at-one_unit)
