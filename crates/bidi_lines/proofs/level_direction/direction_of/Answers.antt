use Rattle.bidi_base.proofs.Common.{not, Bool, if◌then◌else◌, sym, ap, ap₂, ◌∙◌, arith, common_steps, is_odd}
use Rattle.bidi_base.specs.declared.char_data.Direction.{Direction}
use Rattle.bidi_base.specs.declared.char_data.Direction.TheVariants.{Ltr, Rtl, Mixed}
use Rattle.bidi_base.proofs.LevelsLemmas.{either_odd}
use Rattle.bidi_lines.proofs.DirectionLemmas.{direction_of_levels-read, not_odd, odd_since}
use Rattle.bidi_lines.proofs.level_direction.direction_of.Goals as goal

pub loop-level-preserved : goal.loop-level-preserved
loop-level-preserved c = grind (arith, common_steps, either_odd)

-- what is read once all levels are seen
abbrev reported : Bool → Bool → Direction
reported even odd = if not even then Rtl else if not odd then Ltr else Mixed

pub returns-then-even-eq0 : goal.returns-then-even-eq0
returns-then-even-eq0 c =
    sym (direction_of_levels-read _ _ _ _ c.loop-level-test.false c.loop-level.invariant.some_odd c.loop-level.invariant.some_even
    ∙ ap (λ e. reported e (is_odd c.loop-level.odd)) (not_odd c.loop-level.even c.if-even-eq0.true))

pub returns-then-odd-eq0 : goal.returns-then-odd-eq0
returns-then-odd-eq0 c =
    sym (direction_of_levels-read _ _ _ _ c.loop-level-test.false c.loop-level.invariant.some_odd c.loop-level.invariant.some_even
    ∙ ap₂ reported (odd_since c.loop-level.even c.if-even-eq0.false) (not_odd c.loop-level.odd c.if-odd-eq0.true))

pub returns-else-odd-eq0 : goal.returns-else-odd-eq0
returns-else-odd-eq0 c =
    sym (direction_of_levels-read _ _ _ _ c.loop-level-test.false c.loop-level.invariant.some_odd c.loop-level.invariant.some_even
    ∙ ap₂ reported (odd_since c.loop-level.even c.if-even-eq0.false) (odd_since c.loop-level.odd c.if-odd-eq0.false))
