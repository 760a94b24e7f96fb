use Rattle.bidi_base.proofs.Common.{arith, nat_tests}
use Rattle.bidi_base.proofs.TextLemmas.{is_boundary-char_at}
use Rattle.bidi_text.proofs.text.TextSource.next_at.Goals as goal

pub unreachable-requires : goal.unreachable-requires
unreachable-requires g c = grind (arith, nat_tests, is_boundary-char_at)
