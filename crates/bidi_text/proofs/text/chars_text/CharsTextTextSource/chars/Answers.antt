use Rattle.bidi_base.proofs.Common.{rules}
use Rattle.bidi_base.proofs.GivesLemmas.{gives_first}
use Rattle.bidi_text.proofs.text.chars_text.CharsTextTextSource.chars.Goals as goal

pub returns : goal.returns
returns c = search (rules, gives_first)
