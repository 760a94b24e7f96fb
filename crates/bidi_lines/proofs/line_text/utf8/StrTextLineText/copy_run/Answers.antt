use Rattle.bidi_base.proofs.Common.{arith}
use Rattle.bidi_base.proofs.TextLemmas.{is_boundary-le}
use Rattle.bidi_text.proofs.StrLemmas.{text_len-chars}
use Rattle.bidi_lines.proofs.line_text.utf8.StrTextLineText.copy_run.Goals as goal

pub slice_bounds-copy_from_slice-end : goal.slice_bounds-copy_from_slice-end
slice_bounds-copy_from_slice-end c = grind (arith, is_boundary-le, text_len-chars)
