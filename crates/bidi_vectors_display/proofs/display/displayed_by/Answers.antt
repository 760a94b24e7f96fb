use Rattle.unicode_bidi.proofs.WholeText.{whole-IsLine}
use Rattle.bidi_vectors_display.proofs.display.displayed_by.Goals as goal

pub show-requires-clause-is_line : goal.show-requires-clause-is_line
show-requires-clause-is_line g c = whole-IsLine _ _ c.len.result c.len.ensures
