use Rattle.bidi_base.proofs.Common.{ap}
use Rattle.bidi_base.proofs.GivesLemmas.{progress}
use Rattle.bidi_text.proofs.IndexedLemmas.{nothing_read, char_read}
use Rattle.bidi_text.proofs.text.indexed_text.IndexedCharIterIterator.next.Goals as goal

pub returns-in_err-c-clause-steps : goal.returns-in_err-c-clause-steps
returns-in_err-c-clause-steps g c =
    rw c.from_residual.ensures (nothing_read _ _ c.args.self.now.reader.at c.read.new.self.at c.requires (ap g.T.IndexedText.text c.in_err-c.ensures.text) c.in_err-c.ensures.found)

pub returns-clause-steps : goal.returns-clause-steps
returns-clause-steps g c =
    char_read _ _ c.args.self.now.reader.at c.read.new.self.at c.requires (ap g.T.IndexedText.text c.in_ok-c.ensures.text)
    c.in_ok-c.field-0-0 c.in_ok-c.c c.in_ok-c.field-0-2 c.in_ok-c.ensures.found

pub returns-clause-goes : goal.returns-clause-goes
returns-clause-goes g c = progress _ _ c.args.self.now _ _ (returns-clause-steps g c) c.in_ok-c.ensures.can_read
