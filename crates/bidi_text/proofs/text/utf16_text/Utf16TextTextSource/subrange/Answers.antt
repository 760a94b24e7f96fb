use Rattle.bidi_base.proofs.Common.{arith}
use Rattle.bidi_text.proofs.Utf16Lemmas.{is_boundary-within, subrange-utf16}
use Rattle.bidi_text.proofs.text.utf16_text.Utf16TextTextSource.subrange.Goals as goal

pub offset_bounds-units-range : goal.offset_bounds-units-range
offset_bounds-units-range c = grind (arith, is_boundary-within)

pub slice_bounds-new-end : goal.slice_bounds-new-end
slice_bounds-new-end c = grind (arith, is_boundary-within)

pub returns : goal.returns
returns c = grind (arith, subrange-utf16)
