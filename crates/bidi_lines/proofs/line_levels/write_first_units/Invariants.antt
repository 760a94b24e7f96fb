use Rattle.bidi_lines.proofs.Gathered.{IsTaken}
use Rattle.bidi_lines.proofs.line_levels.write_first_units.Given as goal

abbrev pub invariant-loop-at : goal.invariant-loop-at
invariant-loop-at g l = IsTaken g.T.TextSource.encoding.len_of (g.T.TextSource.text l.fn.text).chars l.levels l.out l.copied l.at
