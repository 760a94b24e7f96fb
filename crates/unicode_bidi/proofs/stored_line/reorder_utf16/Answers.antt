use Rattle.bidi_base.proofs.Common.{arith}
use Rattle.bidi_text.proofs.Utf16Lemmas.{text_len-utf16}
use Rattle.unicode_bidi.proofs.WholeText.{whole-IsLine}
use Rattle.unicode_bidi.proofs.stored_line.reorder_utf16.Goals as goal

pub reorder_line-requires : goal.reorder_line-requires
reorder_line-requires c = grind (arith, whole-IsLine, text_len-utf16)
