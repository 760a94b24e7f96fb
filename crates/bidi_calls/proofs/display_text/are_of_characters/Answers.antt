use Rattle.bidi_base.proofs.Common.{arith}
use Rattle.bidi_lines.proofs.Utf16Backwards.{encoded-characters}
use Rattle.bidi_calls.proofs.display_text.are_of_characters.Goals as goal

pub returns : goal.returns
returns c = grind (arith, encoded-characters)
