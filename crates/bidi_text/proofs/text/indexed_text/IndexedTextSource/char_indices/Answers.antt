use Rattle.bidi_base.proofs.Common.{ap, char_indices_from}
use Rattle.bidi_base.proofs.GivesLemmas.{gives_first}
use Rattle.bidi_text.proofs.IndexedLemmas.{chars_from-start}
use Rattle.bidi_text.proofs.text.indexed_text.IndexedTextSource.char_indices.Goals as goal

pub returns : goal.returns
returns g c =
    gives_first _ _ c.new.result _ (rw (c.new.ensures.text, c.new.ensures.at) c.new.ensures.can_read)
    (rw (c.new.ensures.text, c.new.ensures.at) (ap (char_indices_from g.T.IndexedText.encoding.len_of 0) (chars_from-start (g.T.IndexedText.text c.args.self.text))))
