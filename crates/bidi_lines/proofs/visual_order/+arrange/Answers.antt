use Rattle.bidi_base.proofs.Common.{ℕ, List, le_refl, ◌<◌, ◌≤◌, slice_index, arith, ◌∙◌, sym, leb-true}
use Rattle.bidi_lines.specs.ArrangedItems.{AtLeast}
use Rattle.bidi_lines.proofs.Stretches.{IsArrangedTo-run, IsArrangedTo-stretch, IsNextPart-level, IsNextPart-nested, IsNextPart-turned}
use Rattle.bidi_lines.proofs.visual_order.+arrange.Goals as goal
use Rattle.bidi_lines.proofs.visual_order.+arrange.Goals.{then-next-len, else-next-len}

pub loop-at-preserved-then-level-threshold : goal.loop-at-preserved-then-level-threshold
loop-at-preserved-then-level-threshold g t c =
    IsArrangedTo-run _ _ _ _ _ c.loop-at.at _ (omega arith) c.run_end-next.ensures.within (λ p a b. omega (arith, c.run_end-next.ensures.same p a b)) c.requires.untouched c.loop-at.invariant

pub loop-at-preserved-then-level-threshold-eq1 : goal.loop-at-preserved-then-level-threshold-eq1
loop-at-preserved-then-level-threshold-eq1 g t c =
    IsArrangedTo-stretch _ _ _ _ _ _ c.loop-at.at _ (omega arith) (omega arith)
    (λ b. elim c.if-next-len.branch [ then-next-len w ↦ absurd (omega arith) | else-next-len w ↦ let h = leb-true _ _ (sym w.value-is ∙ c.if-number_at-threshold-2.true) in omega arith ])
    (IsNextPart-turned _ _ _ _ _ _ _ (omega arith)
    (IsNextPart-level _ (slice_index (g.L.LevelList.numbers c.args.levels) c.loop-at.at) _ c.loop-at.at c.run_end-next.result (omega arith, omega arith) c.run_end-next.ensures.same
    (λ p a b. c.loop-at.invariant.after p a ∙ c.requires.untouched p (omega (arith, c.loop-at.invariant.begins)) (omega arith)))
    _ (omega arith) c.flip.ensures.outside_before c.flip.ensures.outside_after c.flip.ensures.inside c.flip.ensures.permutation)
    c.loop-at.invariant

pub loop-at-preserved-else-level-threshold-eq1 : goal.loop-at-preserved-else-level-threshold-eq1
loop-at-preserved-else-level-threshold-eq1 g t c =
    IsArrangedTo-stretch _ _ _ _ _ _ c.loop-at.at _ (omega arith) (omega arith)
    (λ b. elim c.if-next-len.branch [ then-next-len w ↦ absurd (omega arith) | else-next-len w ↦ let h = leb-true _ _ (sym w.value-is ∙ c.if-number_at-threshold-2.true) in omega arith ])
    (IsNextPart-nested _ _ _ _ _ _ _ (omega arith)
    (IsNextPart-level _ (slice_index (g.L.LevelList.numbers c.args.levels) c.loop-at.at) _ c.loop-at.at c.run_end-next.result (omega arith, omega arith) c.run_end-next.ensures.same
    (λ p a b. c.loop-at.invariant.after p a ∙ c.requires.untouched p (omega (arith, c.loop-at.invariant.begins)) (omega arith)))
    (omega arith))
    c.loop-at.invariant

-- the stretch above the base ends where the arranged part does
edge_after : (levels : List ℕ) (threshold least at end : ℕ) → threshold < least → AtLeast levels least at end
    → (threshold < slice_index levels end → ((p : ℕ) → at ≤ p → p ≤ end → threshold < slice_index levels p) → least ≤ slice_index levels end)
    → slice_index levels end < least
    → slice_index levels end ≤ threshold
edge_after levels threshold least at end above all reach stops = grind arith

pub loop-at-preserved-then-least-threshold-eq1 : goal.loop-at-preserved-then-least-threshold-eq1
loop-at-preserved-then-least-threshold-eq1 g t c =
    let r = c.arrange-end.ensures in
    IsArrangedTo-stretch _ _ _ _ _ _ c.loop-at.at _ (omega arith) (omega arith)
    (λ b. edge_after _ _ _ c.loop-at.at _ c.least_above-least.ensures.above r.at_least (λ k h. c.least_above-least.ensures.least c.arrange-end.result b h c.arrange-end.result (omega arith) (le_refl _)) (r.stops b))
    (IsNextPart-turned _ _ _ _ _ _ _ (omega arith)
    (record { within = (r.begins, r.within); at_least = r.at_least; before = r.outside_before; after = r.outside_after; arranged = r.arranged; permutation = r.permutation })
    _ (omega arith) c.flip-then-least-threshold-eq1.ensures.outside_before c.flip-then-least-threshold-eq1.ensures.outside_after c.flip-then-least-threshold-eq1.ensures.inside c.flip-then-least-threshold-eq1.ensures.permutation)
    c.loop-at.invariant

pub loop-at-preserved : goal.loop-at-preserved
loop-at-preserved g t c =
    let r = c.arrange-end.ensures in
    IsArrangedTo-stretch _ _ _ _ _ _ c.loop-at.at _ (omega arith) (omega arith)
    (λ b. edge_after _ _ _ c.loop-at.at _ c.least_above-least.ensures.above r.at_least (λ k h. c.least_above-least.ensures.least c.arrange-end.result b h c.arrange-end.result (omega arith) (le_refl _)) (r.stops b))
    (IsNextPart-nested _ _ _ _ _ _ _ (omega arith)
    (record { within = (r.begins, r.within); at_least = r.at_least; before = r.outside_before; after = r.outside_after; arranged = r.arranged; permutation = r.permutation })
    (omega arith))
    c.loop-at.invariant
