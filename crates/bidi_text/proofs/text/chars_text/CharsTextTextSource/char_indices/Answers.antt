use Rattle.bidi_base.proofs.Common.{rules, char_indices_from, one_unit}
use Rattle.bidi_text.specs.declared.text.chars_text.CharsCharIndexIter.{CharsCharIndexIter}
use Rattle.bidi_base.proofs.GivesLemmas.{gives_first}
use Rattle.bidi_text.proofs.text.chars_text.CharsTextTextSource.char_indices.Goals as goal

pub returns : goal.returns
returns c =
    gives_first _ (λ (s : CharsCharIndexIter). char_indices_from one_unit s.at s.rest.now) c.new.result
    (char_indices_from one_unit 0 c.args.self.list.now) (search rules) (rw (c.new.ensures.at, c.new.ensures.rest))
