use Rattle.bidi_base.proofs.UnitIndexLemmas.{text_len-one_unit}
use Rattle.bidi_calls.proofs.caller_text.Utf32TextCallerText.read.Goals as goal

pub returns-clause-text : goal.returns-clause-text
returns-clause-text c =
    record {
      chars = c.new.ensures;
      units = c.new.ensures;
      len = rw c.new.ensures (text_len-one_unit c.args.units.now);
    }
