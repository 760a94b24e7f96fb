use Rattle.bidi_base.proofs.Common.{◌≡◌, length, drop, unit_index}
use Rattle.bidi_paragraphs.specs.declared.paragraph_flags.ParagraphFlags.{ParagraphFlags}
use Rattle.bidi_paragraphs.specs.ClassSet.{has}
use Rattle.bidi_paragraphs.specs.FirstPass.{HasEachChange, IsSkimmed}
use Rattle.bidi_paragraphs.proofs.first_pass.other_characters.read_to_sought.Given as goal

abbrev pub invariant-loop-start : goal.invariant-loop-start
invariant-loop-start g l =
    (goal.iterator-loop-start g).can_next l.start-iterator × (goal.iterator-loop-start g).is_finite l.start-iterator
    × ((flags : ParagraphFlags) → HasEachChange l.sought flags → (h : IsSkimmed (g.D.BidiDataSource.source l.data_source) g.T.TextSource.encoding.len_of (has l.sought) (g.T.TextSource.text l.fn.block).chars 0 (unit_index g.T.TextSource.encoding.len_of (g.T.TextSource.text l.fn.block).chars (length l.yielded)) l.initial.classes l.classes flags flags)
    × (h.rest ≡ drop (length l.yielded) (g.T.TextSource.text l.fn.block).chars))
