use Rattle.bidi_base.proofs.Common.{sym, ◌∙◌}
use Rattle.bidi_lines.proofs.shown_line.chars.ShownLine+CharsText.new.Goals as goal

pub returns-clause-shows : goal.returns-clause-shows
returns-clause-shows c a level len_of none = c.of_text.ensures.shows a level len_of (none ∙ sym c.new.ensures)
