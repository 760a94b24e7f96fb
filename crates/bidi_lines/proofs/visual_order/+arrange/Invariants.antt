use Rattle.bidi_base.proofs.Common.{length, ◌-◌}
use Rattle.bidi_lines.proofs.Stretches.{IsArrangedTo}
use Rattle.bidi_lines.proofs.visual_order.+arrange.Given as goal

abbrev pub decreases-arrange : goal.decreases-arrange
decreases-arrange g l = 255 - l.threshold

abbrev pub invariant-loop-at : goal.invariant-loop-at
invariant-loop-at g l = IsArrangedTo (g.L.LevelList.numbers l.levels) l.threshold l.from l.initial.order l.order l.at

abbrev pub decreases-loop-at : goal.decreases-loop-at
decreases-loop-at g l = length (g.L.LevelList.numbers l.levels) - l.at
