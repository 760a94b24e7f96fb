use Rattle.bidi_base.proofs.Common.{arith}
use Rattle.bidi_laws.proofs.ReadingLemmas.{innermost-last}
use Rattle.bidi_paragraphs.proofs.first_pass.paragraph_state.ParagraphState.is_waiting.Goals as goal

pub returns-in-Some : goal.returns-in-Some
returns-in-Some c = grind (arith, innermost-last)
