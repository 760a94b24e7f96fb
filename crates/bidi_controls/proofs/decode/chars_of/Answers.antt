use Rattle.bidi_base.proofs.Common.{rules, chars_from_encodes}
use Rattle.bidi_controls.proofs.decode.chars_of.Goals as goal

pub returns : goal.returns
returns c = search (rules, chars_from_encodes)
