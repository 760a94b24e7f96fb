use Rattle.bidi_base.proofs.Common.{arith}
use Rattle.bidi_laws.proofs.ReadingLemmas.{outer-take}
use Rattle.bidi_paragraphs.proofs.Undecided.{popped}
use Rattle.bidi_paragraphs.proofs.first_pass.paragraph_state.ParagraphState.take_waiting.Goals as goal

pub returns-then-is_waiting : goal.returns-then-is_waiting
returns-then-is_waiting c = grind (arith, popped, outer-take)
