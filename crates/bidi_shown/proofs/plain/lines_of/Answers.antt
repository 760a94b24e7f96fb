use Rattle.bidi_base.proofs.Common.{arith}
use Rattle.bidi_shown.proofs.BoundsLemmas.{IsRangeOf-whole}
use Rattle.bidi_shown.proofs.ParagraphLemmas.{ranges-Some, ranges-None}
use Rattle.bidi_shown.proofs.plain.lines_of.Goals as goal

pub returns-in-Some-clause-lines : goal.returns-in-Some-clause-lines
returns-in-Some-clause-lines g c = grind (arith, ranges-Some (g.D.BidiDataSource.source c.args.data_source.now) c.in-Some.width c.args.text.now c.utf8.text)

pub returns-in_ok-vec-in-None-clause-lines : goal.returns-in_ok-vec-in-None-clause-lines
returns-in_ok-vec-in-None-clause-lines g c = grind (arith, ranges-None (g.D.BidiDataSource.source c.args.data_source.now) c.args.text.now c.utf8.text)

pub returns-in_ok-vec-in-None-clause-ranges : goal.returns-in_ok-vec-in-None-clause-ranges
returns-in_ok-vec-in-None-clause-ranges g c = grind (arith, IsRangeOf-whole c.args.text.now c.utf8.text)
