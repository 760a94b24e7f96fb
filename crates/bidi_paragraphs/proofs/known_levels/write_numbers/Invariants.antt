-- The runs so far are changed.
use Rattle.bidi_base.proofs.Common.{length, map, take, bounds, in_runs}
use Rattle.bidi_base.specs.declared.char_data.BidiClass.TheVariants.{L}
use Rattle.bidi_base.specs.Updated.{IsUpdated}
use Rattle.bidi_paragraphs.specs.KnownLevels.{number_as_l}
use Rattle.bidi_paragraphs.proofs.known_levels.write_numbers.Given as goal

abbrev pub invariant-loop-run : goal.invariant-loop-run
invariant-loop-run l = IsUpdated L (in_runs (take l.run-index (map bounds l.runs))) number_as_l 0 (length l.fn.classes) l.fn.classes l.classes
