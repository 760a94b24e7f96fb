use Rattle.bidi_base.proofs.Common.{arith}
use Rattle.bidi_shown.proofs.PiecesLemmas.{whole-at, whole-before}
use Rattle.bidi_shown.proofs.stream.whole_lines.Goals as goal

pub loop-end-preserved : goal.loop-end-preserved
loop-end-preserved c = grind (arith, whole-before c.args.bytes.now c.loop-end.end)

pub returns-then-bytes-end-eq10-clause-count : goal.returns-then-bytes-end-eq10-clause-count
returns-then-bytes-end-eq10-clause-count c = grind (arith, whole-at c.args.bytes.now c.loop-end.end)
