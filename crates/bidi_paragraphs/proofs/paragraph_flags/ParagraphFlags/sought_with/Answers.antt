use Rattle.bidi_base.proofs.Common.{refl}
use Rattle.bidi_paragraphs.proofs.FlagsLemmas.{counted_set-has}
use Rattle.bidi_paragraphs.proofs.paragraph_flags.ParagraphFlags.sought_with.Goals as goal

pub returns : goal.returns
returns c = λ k. simp (c.union.ensures.has k, c.without.ensures k, counted_set-has k) refl
