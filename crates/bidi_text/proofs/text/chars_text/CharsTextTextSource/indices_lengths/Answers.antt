use Rattle.bidi_base.proofs.Common.{rules, indices_lengths_from, one_unit}
use Rattle.bidi_text.specs.declared.text.chars_text.CharsIndexLenIter.{CharsIndexLenIter}
use Rattle.bidi_base.proofs.GivesLemmas.{gives_first}
use Rattle.bidi_text.proofs.text.chars_text.CharsTextTextSource.indices_lengths.Goals as goal

pub returns : goal.returns
returns c =
    gives_first _ (λ (s : CharsIndexLenIter). indices_lengths_from one_unit s.at s.rest.now) c.new.result
    (indices_lengths_from one_unit 0 c.args.self.list.now) (search rules) (rw (c.new.ensures.at, c.new.ensures.rest))
