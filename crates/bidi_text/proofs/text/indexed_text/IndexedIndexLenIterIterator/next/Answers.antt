use Rattle.bidi_base.proofs.Common.{ap, indices_lengths_from}
use Rattle.bidi_base.proofs.GivesLemmas.{progress}
use Rattle.bidi_text.proofs.IndexedLemmas.{nothing_read, index_length_read}
use Rattle.bidi_text.proofs.text.indexed_text.IndexedIndexLenIterIterator.next.Goals as goal

pub returns-in_err-at-clause-steps : goal.returns-in_err-at-clause-steps
returns-in_err-at-clause-steps g c =
    let none = nothing_read _ _ c.args.self.now.reader.at c.read.new.self.at c.requires (ap g.T.IndexedText.text c.in_err-at.ensures.text) c.in_err-at.ensures.found in
    rw c.from_residual.ensures (ap (indices_lengths_from g.T.IndexedText.encoding.len_of c.args.self.now.reader.at) none.0, ap (indices_lengths_from g.T.IndexedText.encoding.len_of c.read.new.self.at) none.1)

pub returns-clause-steps : goal.returns-clause-steps
returns-clause-steps g c =
    index_length_read _ _ c.args.self.now.reader.at c.read.new.self.at c.requires (ap g.T.IndexedText.text c.in_ok-at.ensures.text)
    c.in_ok-at.at c.in_ok-at.field-0-1 c.in_ok-at.len c.in_ok-at.ensures.found

pub returns-clause-goes : goal.returns-clause-goes
returns-clause-goes g c = progress _ _ c.args.self.now _ _ (returns-clause-steps g c) c.in_ok-at.ensures.can_read
