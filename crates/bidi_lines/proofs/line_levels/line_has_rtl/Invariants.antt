use Rattle.bidi_lines.proofs.LineLevels.{ShowsNoRtlFrom}
use Rattle.bidi_lines.proofs.line_levels.line_has_rtl.Given as goal

abbrev pub invariant-loop-at : goal.invariant-loop-at
invariant-loop-at l = ShowsNoRtlFrom l.para_level l.classes l.levels l.reset l.at

abbrev pub decreases-loop-at : goal.decreases-loop-at
decreases-loop-at l = l.at
