use Rattle.bidi_base.proofs.Common.{sym, ap, ◌∙◌, chars, chars-nil}
use Rattle.bidi_lines.proofs.shown_line.utf8.ShownLine+StrText.new.Goals as goal

pub returns-clause-shows : goal.returns-clause-shows
returns-clause-shows c a level len_of none = c.of_text.ensures.shows a level len_of (none ∙ sym (ap chars c.new.ensures ∙ chars-nil))
