use Rattle.bidi_base.proofs.Common.{sym, len_utf8, chars}
use Rattle.bidi_text.proofs.StrLemmas.{text_len-chars}
use Rattle.unicode_bidi.proofs.WholeText.{whole-IsLine}
use Rattle.unicode_bidi.proofs.stored_line.reorder_utf8.Goals as goal

pub reorder_line-requires : goal.reorder_line-requires
reorder_line-requires c =
    rw (c.new-analysed.ensures.text, c.new.ensures)
    (whole-IsLine len_utf8 (chars c.args.text.now) _ (sym (text_len-chars c.args.text.now c.utf8.text)))
