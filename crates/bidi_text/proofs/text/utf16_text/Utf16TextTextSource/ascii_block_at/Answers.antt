use Rattle.bidi_base.proofs.Common.{◌≡◌, ◌∙◌, ◌+◌, ◌<◌, length, map, get_or, get_or-map, nat_tests, ap, arith, Some, ascii_at, utf16_text, utf16_len}
use Rattle.bidi_text.proofs.Utf16Lemmas.{ascii_at-unit}
use Rattle.bidi_text.proofs.text.utf16_text.Utf16TextTextSource.ascii_block_at.Goals as goal

pub returns : goal.returns
returns c k below =
    let us = c.args.self.now.units.now in
    let block = c.in_ok-block.ensures in
    let unit = block.2 k below in
    let byte : get_or (map (λ x. x) c.in_ok-block.block) k 0 ≡ get_or c.in_ok-block.block k 0 = grind (arith, get_or-map) in
    let here : get_or c.in_ok-block.block k 0 ≡ get_or us (c.args.index + k) 0 = cc (unit.0, c.units.ensures) in
    let within : c.args.index + k < length us = omega (arith, block.0, below, ap length c.units.ensures) in
    let there : Some (get_or us (c.args.index + k) 0) ≡ ascii_at utf16_len (utf16_text us) (c.args.index + k) = grind (arith, nat_tests, ascii_at-unit us (c.args.index + k) within, here, unit.1) in
    ap Some (byte ∙ here) ∙ there
