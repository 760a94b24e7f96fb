use Rattle.bidi_base.proofs.Common.{arith}
use Rattle.bidi_text.proofs.IndexedLemmas.{CanReadOn-start}
use Rattle.bidi_text.proofs.text.indexed_text.Reader.new.Goals as goal

pub returns-clause-can_read : goal.returns-clause-can_read
returns-clause-can_read g c = CanReadOn-start (g.T.IndexedText.text c.args.text) (omega (arith, c.len-len.ensures, c.len-len.type_inv))
