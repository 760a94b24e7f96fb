use Rattle.bidi_base.proofs.Common.{arith}
use Rattle.bidi_text.proofs.CharsLemmas.{is_boundary-within}
use Rattle.bidi_numbers.proofs.utf32_text.Utf32TextLineText.copy_run.Goals as goal

pub offset_bounds-numbers-run : goal.offset_bounds-numbers-run
offset_bounds-numbers-run c = grind (arith, is_boundary-within)

pub slice_bounds-copy_from_slice-end : goal.slice_bounds-copy_from_slice-end
slice_bounds-copy_from_slice-end c = grind (arith, is_boundary-within)
