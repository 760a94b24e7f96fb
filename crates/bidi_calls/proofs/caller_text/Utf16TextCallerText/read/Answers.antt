use Rattle.bidi_base.proofs.Common.{ap, utf16_text}
use Rattle.bidi_text.proofs.Utf16Lemmas.{text_len-utf16}
use Rattle.bidi_calls.proofs.caller_text.Utf16TextCallerText.read.Goals as goal

pub returns-clause-text : goal.returns-clause-text
returns-clause-text c =
    record {
      chars = ap utf16_text c.new.ensures;
      units = c.new.ensures;
      len = rw c.new.ensures (text_len-utf16 c.args.units.now);
    }
