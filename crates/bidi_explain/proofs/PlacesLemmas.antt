-- The visual indexes of a paragraph.
use Rattle.bidi_base.proofs.Common.{◌≡◌, ℕ, List, length, arith, length-map, length-range_with_len, visual_indexes, Source}
use Rattle.bidi_explain.proofs.StagesLemmas.{line_levels-long}
use Rattle.bidi_explain.specs.Stages.{StagesFrom}
use Rattle.bidi_explain.specs.declared.stages.Stages.{Stages}

length-visual_indexes : (levels : List ℕ) → length (visual_indexes levels) ≡ length levels
unfolding visual_indexes
length-visual_indexes levels = grind (arith, length-map, length-range_with_len)

-- each character has one
pub places-long : (source : Source) (chars : List ℕ) (para_level : ℕ) (stored : List ℕ) → length stored ≡ length chars → (s : Stages) → StagesFrom source chars para_level stored s
    → length s.places.items ≡ length chars
places-long source chars para_level stored long s from = grind (arith, from, length-visual_indexes, line_levels-long source chars para_level stored long s from)
