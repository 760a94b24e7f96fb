use Rattle.bidi_base.proofs.Common.{◌≡◌, ◌∙◌, ℕ, ◌+◌, ◌<◌, List, length, inl, inr, get_or, ap, sym, subst, arith, rules, common_steps, cases_Bool, le_refl, get_or_default, length_push, text_len}
use Rattle.bidi_base.proofs.Common.{unit_index, is_boundary, slice_set}
use Rattle.bidi_base.proofs.TextLemmas.{HasUnits, length-le-text_len}
use Rattle.bidi_base.proofs.UnitIndexLemmas.{length_turn, length_end}
use Rattle.bidi_lines.proofs.Gathered.{IsGathered-more, IsGathered-end, IsTaken, IsTaken-inside, IsTaken-more, IsTaken-end, IsTaken-le, IsSwept, IsSwept-next, taken-all}
use Rattle.bidi_lines.proofs.line_levels.gather.Goals as goal

-- no more characters have begun than units were passed
few_before : (len : ℕ → ℕ) (cs old new : List ℕ) (n at : ℕ) → HasUnits len → IsSwept len cs old new n at → length new ≡ length old → at < length old → n < length new
few_before len cs old new n at units swept same within = omega (arith, IsTaken-le len cs old units new n at swept.taken, same, within)

pub bounds-levels-count : goal.bounds-levels-count
bounds-levels-count g c =
    few_before g.T.TextSource.encoding.len_of (g.T.TextSource.text c.args.text).chars c.args.levels.now c.loop-at.levels c.loop-at.count c.loop-at.at g.T.TextSource.encoding.positive c.loop-at.invariant c.loop-at.auto.levels (omega (arith, c.loop-at-test.true, c.len-at-end.ensures, c.requires))

pub overflow_add-count : goal.overflow_add-count
overflow_add-count g c =
    let below : c.loop-at.count < length c.loop-at.levels = few_before g.T.TextSource.encoding.len_of (g.T.TextSource.text c.args.text).chars c.args.levels.now c.loop-at.levels c.loop-at.count c.loop-at.at g.T.TextSource.encoding.positive c.loop-at.invariant c.loop-at.auto.levels (omega (arith, c.loop-at-test.true, c.len-at-end.ensures, c.requires)) in
    search rules

pub loop-at-preserved : goal.loop-at-preserved
loop-at-preserved g c =
    let len = g.T.TextSource.encoding.len_of in
    let cs : List ℕ = (g.T.TextSource.text c.args.text).chars in
    let units = g.T.TextSource.encoding.positive in
    let old = c.args.levels.now in
    let swept = c.loop-at.invariant in
    let within : c.loop-at.at < length c.loop-at.levels = omega (arith, c.loop-at-test.true, c.len-at-end.ensures, c.requires, c.loop-at.auto.levels) in
    let read = c.index-levels-at.is ∙ get_or_default c.loop-at.levels c.loop-at.at c.index-levels-at.result 0 within ∙ swept.rest c.loop-at.at (le_refl _) in
    let new = slice_set c.loop-at.levels c.loop-at.count c.index-levels-at.result in
    elim (cases_Bool (is_boundary len cs c.loop-at.at)) [
      | inl begins ↦ subst (λ n. IsSwept len cs old new n (c.loop-at.at + 1)) (grind (arith, common_steps, begins, c.from-count.ensures, c.is_boundary.ensures))
          (IsSwept-next len cs old units c.loop-at.levels c.loop-at.count c.loop-at.at c.index-levels-at.result _ swept
          (IsTaken-more len cs old units c.loop-at.levels c.loop-at.count c.loop-at.at c.index-levels-at.result begins (omega (arith, c.loop-at-test.true, c.len-at-end.ensures)) c.requires read swept.taken))
      | inr inside ↦ subst (λ n. IsSwept len cs old new n (c.loop-at.at + 1)) (grind (arith, common_steps, inside, c.from-count.ensures, c.is_boundary.ensures))
          (IsSwept-next len cs old units c.loop-at.levels c.loop-at.count c.loop-at.at c.index-levels-at.result _ swept
          (IsTaken-inside len cs old units c.loop-at.levels c.loop-at.count c.loop-at.at c.index-levels-at.result inside swept.taken))
    ]

pub returns-then-READS_IN_PLACE-clause-count : goal.returns-then-READS_IN_PLACE-clause-count
returns-then-READS_IN_PLACE-clause-count g c =
    let len = g.T.TextSource.encoding.len_of in
    let cs : List ℕ = (g.T.TextSource.text c.args.text).chars in
    let end : c.loop-at.at ≡ text_len len cs = omega (arith, c.loop-at-test.false, c.loop-at.auto.at-end, c.len-at-end.ensures) in
    IsTaken-end len cs c.args.levels.now g.T.TextSource.encoding.positive c.loop-at.levels c.loop-at.count (subst (λ at. IsTaken len cs c.args.levels.now c.loop-at.levels c.loop-at.count at) end c.loop-at.invariant.taken)

pub returns-then-READS_IN_PLACE-clause-gathered : goal.returns-then-READS_IN_PLACE-clause-gathered
returns-then-READS_IN_PLACE-clause-gathered g c =
    taken-all g.T.TextSource.encoding.len_of (g.T.TextSource.text c.args.text).chars c.args.levels.now c.loop-at.levels c.loop-at.count c.loop-at.at (returns-then-READS_IN_PLACE-clause-count g c) c.loop-at.invariant.taken

pub bounds-levels-at-in-loop-at-2 : goal.bounds-levels-at-in-loop-at-2
bounds-levels-at-in-loop-at-2 g c =
    let w = length_turn _ _ c.indices_lengths-at-items.ensures c.into_iter-at-iterator.ensures.into_iter_gives c.loop-at-2.yielded _ c.loop-at-2.yielded_by _ _ c.in-Some.at c.in-Some.field-0-1 c.in-Some.is c.next.ensures.steps in
    omega (arith, w.long, w.fits, c.requires, g.T.TextSource.encoding.positive (get_or (g.T.TextSource.text c.args.text).chars (length c.loop-at-2.yielded) 0))

pub bounds-levels-index : goal.bounds-levels-index
bounds-levels-index g c =
    let w = length_turn _ _ c.indices_lengths-at-items.ensures c.into_iter-at-iterator.ensures.into_iter_gives c.loop-at-2.yielded _ c.loop-at-2.yielded_by _ _ c.in-Some.at c.in-Some.field-0-1 c.in-Some.is c.next.ensures.steps in
    omega (arith, w.turn.within, length-le-text_len _ g.T.TextSource.encoding.positive (g.T.TextSource.text c.args.text).chars, c.loop-at-2.invariant.2, c.requires)

pub overflow_add-index : goal.overflow_add-index
overflow_add-index g c =
    let below : c.loop-at-2.index < length c.loop-at-2.levels = bounds-levels-index g c in
    search rules

pub loop-at-2-preserved : goal.loop-at-2-preserved
loop-at-2-preserved g c =
    let len = g.T.TextSource.encoding.len_of in
    let cs : List ℕ = (g.T.TextSource.text c.args.text).chars in
    let w = length_turn len cs c.indices_lengths-at-items.ensures c.into_iter-at-iterator.ensures.into_iter_gives c.loop-at-2.yielded _ c.loop-at-2.yielded_by _ _ c.in-Some.at c.in-Some.field-0-1 c.in-Some.is c.next.ensures.steps in
    let inside : c.in-Some.at < length c.loop-at-2.levels = omega (arith, w.long, w.fits, c.requires, g.T.TextSource.encoding.positive (get_or cs (length c.loop-at-2.yielded) 0)) in
    let here : c.in-Some.at ≡ unit_index len cs c.loop-at-2.index = w.turn.at_place ∙ ap (unit_index len cs) (sym c.loop-at-2.invariant.2) in (
      c.in-Some.ensures.goes.keeps,
      (c.in-Some.ensures.goes.on c.loop-at-2.invariant.1).1,
      omega (arith, c.loop-at-2.invariant.2, length_push c.loop-at-2.yielded (c.in-Some.at, c.in-Some.field-0-1)),
      IsGathered-more len cs c.args.levels.now g.T.TextSource.encoding.positive c.loop-at-2.levels c.loop-at-2.index c.index-levels-at-in-loop-at-2.result (omega (arith, w.turn.within)) c.requires
          (c.index-levels-at-in-loop-at-2.is ∙ get_or_default c.loop-at-2.levels c.in-Some.at c.index-levels-at-in-loop-at-2.result 0 inside ∙ ap (λ u. get_or c.loop-at-2.levels u 0) here) c.loop-at-2.invariant.3,
    )

pub returns-clause-count : goal.returns-clause-count
returns-clause-count g c =
    c.loop-at-2.invariant.2 ∙ length_end g.T.TextSource.encoding.len_of (g.T.TextSource.text c.args.text).chars c.indices_lengths-at-items.ensures c.into_iter-at-iterator.ensures.into_iter_gives c.loop-at-2.yielded _ c.loop-at-2.yielded_by _ _ c.in-None.is c.next.ensures.steps

pub returns-clause-gathered : goal.returns-clause-gathered
returns-clause-gathered g c =
    IsGathered-end g.T.TextSource.encoding.len_of (g.T.TextSource.text c.args.text).chars c.args.levels.now c.loop-at-2.levels c.loop-at-2.index (returns-clause-count g c) c.loop-at-2.invariant.3
