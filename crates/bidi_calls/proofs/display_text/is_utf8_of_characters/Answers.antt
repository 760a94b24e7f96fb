use Rattle.bidi_base.proofs.Common.{sym, encodes-chars}
use Rattle.bidi_calls.proofs.display_text.is_utf8_of_characters.Goals as goal

pub returns : goal.returns
returns c = λ _. sym (encodes-chars c.args._text.now c.utf8._text)
