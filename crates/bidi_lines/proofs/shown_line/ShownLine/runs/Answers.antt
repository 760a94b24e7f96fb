use Rattle.bidi_base.proofs.Common.{AreRunsOfLine, sym, subst}
use Rattle.bidi_lines.proofs.ShownLines.{runs_of_shown}
use Rattle.bidi_lines.proofs.shown_line.ShownLine.runs.Goals as goal

pub returns-clause-runs : goal.returns-clause-runs
returns-clause-runs g c a level line shows =
    subst (AreRunsOfLine a level line) (sym c.as_slice.ensures) (runs_of_shown c.args.self.now g.T.TextSource.encoding.positive a level line shows)
