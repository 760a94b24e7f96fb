use Rattle.bidi_base.proofs.Common.{arith}
use Rattle.bidi_controls.proofs.FileLinesLemmas.{no_lines}
use Rattle.bidi_controls.proofs.file_lines.count_lines.Goals as goal

pub returns-clause-count : goal.returns-clause-count
returns-clause-count c =
    let none = no_lines c.loop-rest.rest.now (grind arith) in let all = c.loop-rest.invariant.all in omega arith
