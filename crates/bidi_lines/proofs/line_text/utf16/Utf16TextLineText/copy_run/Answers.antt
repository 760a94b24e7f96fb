use Rattle.bidi_base.proofs.Common.{arith}
use Rattle.bidi_text.proofs.Utf16Lemmas.{is_boundary-within}
use Rattle.bidi_lines.proofs.line_text.utf16.Utf16TextLineText.copy_run.Goals as goal

pub offset_bounds-units-run : goal.offset_bounds-units-run
offset_bounds-units-run c = grind (arith, is_boundary-within)

pub slice_bounds-copy_from_slice-end : goal.slice_bounds-copy_from_slice-end
slice_bounds-copy_from_slice-end c = grind (arith, is_boundary-within)
