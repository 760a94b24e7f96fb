use Rattle.bidi_base.proofs.Common.{◌≡◌, map, take}
use Rattle.bidi_numbers.specs.Structs.{paragraph_struct}
use Rattle.unicode_bidi.specs.ParagraphInfo.{range_of, level_of}
use Rattle.bidi_calls.proofs.analysis.write_paragraphs.Given as goal

-- the structs so far
abbrev pub invariant-loop-i : goal.invariant-loop-i
invariant-loop-i l = take l.i l.out ≡ map (λ p. paragraph_struct (((range_of p).start, (range_of p).end), level_of p)) (take l.i l.paragraphs)
