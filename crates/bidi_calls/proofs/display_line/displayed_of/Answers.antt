use Rattle.unicode_bidi.proofs.WholeText.{whole-IsLine}
use Rattle.bidi_calls.proofs.display_line.displayed_of.Goals as goal

pub show-requires-clause-is_line : goal.show-requires-clause-is_line
show-requires-clause-is_line g c = whole-IsLine g.T.TextSource.encoding.len_of (g.T.TextSource.text c.args.text).chars c.len.result c.len.ensures
