use Rattle.bidi_base.proofs.Common.{◌≡◌, take, found_brackets}
use Rattle.bidi_plain.proofs.plain.bracket_pairs.counted_brackets.Given as goal

abbrev pub invariant-loop-index : goal.invariant-loop-index
invariant-loop-index l = l.counted.items ≡ found_brackets (take l.index l.classes) (take l.index l.brackets)
