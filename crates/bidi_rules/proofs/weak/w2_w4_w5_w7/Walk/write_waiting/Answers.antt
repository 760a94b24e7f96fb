use Rattle.bidi_base.proofs.Common.{◌≡◌, ℕ, ◌+◌, ◌*◌, ◌<◌, ◌≤◌, true, List, map, get_or, drop, refl, sym, ◌∙◌, arith, bounds, are_ordered, get_or-drop}
use Rattle.bidi_rules.specs.declared.weak.w2_w4_w5_w7.Walk.{Walk}
use Rattle.bidi_rules.specs.WeakPass.{waits}
use Rattle.bidi_rules.specs.WeakWalk.{resolved_to, WaitsBelow}
use Rattle.bidi_explicit.specs.SequenceUnits.{count_below}
use Rattle.bidi_rules.proofs.CountedUnits.{paid-by-part, resolved_to-waits}
use Rattle.bidi_explicit.proofs.WalkLemmas.{forwards-in_order, part_after}
use Rattle.bidi_rules.proofs.weak.w2_w4_w5_w7.Walk.write_waiting.Goals as goal

pub write_over_runs_counted-requires-clause-ordered : goal.write_over_runs_counted-requires-clause-ordered
write_over_runs_counted-requires-clause-ordered g c = grind (arith, forwards-in_order) steps 400000

pub returns-then-waits-clause-held : goal.returns-then-waits-clause-held
returns-then-waits-clause-held g c = grind (arith, part_after)

-- the iterations over the runs from the one where what waits begins
paid : (runs : List (ℕ × ℕ)) (w : Walk) (to old new : ℕ) → are_ordered runs ≡ true → WaitsBelow runs w to → waits w.before ≡ true
    → (w.first < to → w.first < (get_or (drop w.first_run runs) 0 (0, 0)).1 → new + 2 * count_below (drop w.first_run runs) w.first ≤ old + 2 * count_below (drop w.first_run runs) to)
    → new + 2 * count_below runs (resolved_to w to) ≤ old + 2 * count_below runs to
paid runs w to old new ordered waiting t turns =
    grind (arith, get_or-drop, paid-by-part w.first_run runs w.first to new old ordered, resolved_to-waits w to t)

pub returns-then-waits-clause-steps_at_most : goal.returns-then-waits-clause-steps_at_most
returns-then-waits-clause-steps_at_most g c =
    paid (map bounds c.args.runs.now) c.args.self.now c.args.to _ _ c.requires.ordered c.requires.waiting (sym c.waits.ensures ∙ c.if-waits.true)
    (rw (part_after c.args.runs.now c.args.runs.now c.args.self.now.first_run refl) at c.write_over_runs_counted.ensures.steps_at_most)

pub returns-else-waits-clause-steps_at_most : goal.returns-else-waits-clause-steps_at_most
returns-else-waits-clause-steps_at_most g c = grind arith
