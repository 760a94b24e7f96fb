use Rattle.bidi_base.proofs.Common.{arith, append_assoc}
use Rattle.bidi_controls.proofs.FindingsLemmas.{findings-parts}
use Rattle.bidi_controls.proofs.check.LineSearch.push_found_in_paragraph.Goals as goal

pub returns-clause-findings : goal.returns-clause-findings
returns-clause-findings g c = grind (arith, append_assoc, findings-parts)
