use Rattle.bidi_base.proofs.Common.{arith, chars_from_encodes, IsUtf8-string_bytes}
use Rattle.bidi_controls.specs.Decoded.{utf16_decoded}
use Rattle.bidi_controls.proofs.decode.text_of_utf16.Goals as goal

pub returns : goal.returns
returns c = grind (arith, chars_from_encodes (utf16_decoded c.args.high_first c.args.bytes.now) _ (IsUtf8-string_bytes c.in_ok-text.text))
