use Rattle.bidi_base.proofs.Common.{◌≡◌, ◌∙◌, ◌+◌, ◌<◌, length, get_or, ap, arith, Some}
use Rattle.std.proofs.lemmas.Option.{IfSome_then}
use Rattle.bidi_text.proofs.Utf16Lemmas.{char_at-unit}
use Rattle.bidi_text.proofs.text.utf16_text.Utf16TextTextSource.low_block_at.Goals as goal

pub returns-clause-characters : goal.returns-clause-characters
returns-clause-characters c = IfSome_then c.block_below.result c.block_below.ensures (λ block is k below.
    let us = c.args.self.now.units.now in
    let unit = is.2 k below in
    let here : get_or block k 0 ≡ get_or us (c.args.index + k) 0 = cc (unit.0, c.units.ensures) in
    let within : c.args.index + k < length us = omega (arith, is.0, below, ap length c.units.ensures) in
    ap (λ u. Some (u, 1)) here ∙ char_at-unit us (c.args.index + k) within (omega (arith, unit.1, here)))
