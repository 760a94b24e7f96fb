use Rattle.bidi_base.proofs.Common.{rules, char_indices_from, utf16_text, utf16_len}
use Rattle.bidi_text.specs.declared.text.utf16_text.Utf16CharIndexIter.{Utf16CharIndexIter}
use Rattle.bidi_base.proofs.GivesLemmas.{gives_first}
use Rattle.bidi_text.proofs.text.utf16_text.Utf16TextTextSource.char_indices.Goals as goal

pub returns : goal.returns
returns c =
    gives_first _ (λ (s : Utf16CharIndexIter). char_indices_from utf16_len s.at (utf16_text s.rest.now)) c.new.result
    (char_indices_from utf16_len 0 (utf16_text c.args.self.units.now)) (search rules) (rw (c.new.ensures.at, c.new.ensures.rest))
