use Rattle.bidi_base.proofs.Common.{arith}
use Rattle.bidi_controls.proofs.DisplayedLemmas.{levels_long}
use Rattle.bidi_controls.proofs.check.LineSearch.push_line_finding.Goals as goal

pub write_displayed-requires : goal.write_displayed-requires
write_displayed-requires g c = grind (arith, levels_long)
