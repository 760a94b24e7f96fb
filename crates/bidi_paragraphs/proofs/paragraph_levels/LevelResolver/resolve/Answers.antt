use Rattle.bidi_base.proofs.Common.{arith}
use Rattle.bidi_paragraphs.proofs.FlagsLemmas.{is_flat-flags}
use Rattle.bidi_paragraphs.proofs.paragraph_levels.LevelResolver.resolve.Goals as goal

pub resolve_flat-requires-clause-flat : goal.resolve_flat-requires-clause-flat
resolve_flat-requires-clause-flat g c = grind (arith, is_flat-flags)
