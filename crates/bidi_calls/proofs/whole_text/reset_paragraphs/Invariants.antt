use Rattle.bidi_calls.specs.WholeText.{of_info, paragraph_levels}
use Rattle.unicode_bidi.proofs.ParagraphUnits.{AreParagraphsWritten}
use Rattle.bidi_calls.proofs.whole_text.reset_paragraphs.Given as goal

abbrev pub invariant-loop-paragraph : goal.invariant-loop-paragraph
invariant-loop-paragraph l =
    AreParagraphsWritten (λ p. paragraph_levels l.classes l.fn.levels (of_info p)) l.fn.levels l.paragraphs l.paragraph-index l.levels
