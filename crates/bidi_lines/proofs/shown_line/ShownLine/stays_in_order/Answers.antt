use Rattle.bidi_lines.proofs.ShownLines.{stays_of_shown}
use Rattle.bidi_lines.proofs.shown_line.ShownLine.stays_in_order.Goals as goal

pub returns-clause-line : goal.returns-clause-line
returns-clause-line g c a level line shows = stays_of_shown c.args.self.now g.T.TextSource.encoding.positive a level line shows
