use Rattle.bidi_base.proofs.Common.{ap, utf16_text}
use Rattle.bidi_text.specs.declared.text.utf16_text.Utf16CharIter.{Utf16CharIter}
use Rattle.bidi_base.proofs.GivesLemmas.{gives_first}
use Rattle.bidi_text.proofs.text.utf16_text.Utf16TextTextSource.chars.Goals as goal

pub returns : goal.returns
returns c = gives_first _ (λ (s : Utf16CharIter). utf16_text s.rest.now) c.new.result (utf16_text c.args.self.units.now) tt (ap utf16_text c.new.ensures)
