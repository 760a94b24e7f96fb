use Rattle.bidi_base.proofs.Common.{arith}
use Rattle.bidi_paragraphs.proofs.FilledUnits.{none_hidden}
use Rattle.bidi_paragraphs.proofs.FlagsLemmas.{has_removed-flags}
use Rattle.bidi_paragraphs.proofs.paragraph_levels.LevelResolver.copy_flat.Goals as goal

pub returns-else-has_removed : goal.returns-else-has_removed
returns-else-has_removed g c = grind (arith, has_removed-flags, none_hidden)
