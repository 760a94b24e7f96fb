use Rattle.bidi_base.proofs.Common.{sym}
use Rattle.bidi_text.proofs.Utf16Lemmas.{text_len-utf16}
use Rattle.bidi_text.proofs.text.utf16_text.Utf16TextTextSource.len.Goals as goal

pub returns : goal.returns
returns c = sym (text_len-utf16 c.args.self.now.units.now)
