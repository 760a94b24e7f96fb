use Rattle.bidi_base.proofs.Common.{sym}
use Rattle.bidi_text.proofs.StrLemmas.{text_len-chars}
use Rattle.bidi_text.proofs.text.str_text.StrTextTextSource.len.Goals as goal

pub returns : goal.returns
returns c = rw (← c.as_str.ensures) (sym (text_len-chars c.as_str.result.now c.as_str.utf8))
