use Rattle.bidi_base.proofs.Common.{sym, ap, ◌∙◌, utf16_text}
use Rattle.bidi_lines.proofs.shown_line.utf16.ShownLine+Utf16Text.new.Goals as goal

pub returns-clause-shows : goal.returns-clause-shows
returns-clause-shows c a level len_of none = c.of_text.ensures.shows a level len_of (none ∙ sym (ap utf16_text c.new.ensures))
