use Rattle.bidi_base.proofs.Common.{arith}
use Rattle.bidi_base.proofs.TextLemmas.{is_boundary-char_at}
use Rattle.bidi_text.proofs.text.TextSource.is_boundary.Goals as goal

pub returns-then-index-len : goal.returns-then-index-len
returns-then-index-len g c = grind (arith, is_boundary-char_at)

pub returns-else-index-len : goal.returns-else-index-len
returns-else-index-len g c = grind (arith, is_boundary-char_at)
