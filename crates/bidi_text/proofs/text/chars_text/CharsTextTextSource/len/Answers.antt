use Rattle.bidi_base.proofs.Common.{sym}
use Rattle.bidi_base.proofs.UnitIndexLemmas.{text_len-one_unit}
use Rattle.bidi_text.proofs.text.chars_text.CharsTextTextSource.len.Goals as goal

pub returns : goal.returns
returns c = sym (text_len-one_unit c.args.self.now.list.now)
