use Rattle.bidi_base.proofs.Common.{◌≡◌, length, take, slice_range}
use Rattle.bidi_base.specs.declared.char_data.BidiClass.TheVariants.{L}
use Rattle.bidi_base.specs.Texts.{subrange, per_char}
use Rattle.bidi_display.specs.LineChars.{line_chars_by}
use Rattle.bidi_display.proofs.line_char.read_chars.Given as goal

abbrev pub invariant-loop-offset : goal.invariant-loop-offset
invariant-loop-offset g l =
    let part = subrange (g.T.TextSource.text l.fn.text) l.fn.line.start l.fn.line.end in
    (goal.iterator-loop-offset g).can_next l.offset-iterator × (goal.iterator-loop-offset g).is_finite l.offset-iterator
    × (l.out.items ≡ take (length l.yielded) (line_chars_by g.T.TextSource.encoding.len_of l.fn.line.start part.chars (per_char L part (slice_range l.classes l.fn.line.start l.fn.line.end)) l.levels))
