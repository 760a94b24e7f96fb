use Rattle.bidi_base.proofs.Common.{◌≡◌, ◌∙◌, ℕ, ◌+◌, ◌<◌, List, length, inl, inr, subst, arith, rules, common_steps, cases_Bool, get_or_default, text_len, is_boundary, slice_set}
use Rattle.bidi_base.proofs.TextLemmas.{HasUnits}
use Rattle.bidi_lines.proofs.Gathered.{IsTaken, IsTaken-inside, IsTaken-more, IsTaken-end, IsTaken-le, taken-all}
use Rattle.bidi_lines.proofs.line_levels.write_first_units.Goals as goal

-- no more characters have begun than units were passed
few_before : (len : ℕ → ℕ) (cs levels out : List ℕ) (n at : ℕ) → HasUnits len → IsTaken len cs levels out n at → at < length levels → n < length out
few_before len cs levels out n at units taken within = omega (arith, IsTaken-le len cs levels units out n at taken, taken.long, within)

pub bounds-out-copied : goal.bounds-out-copied
bounds-out-copied g c =
    few_before g.T.TextSource.encoding.len_of (g.T.TextSource.text c.args.text).chars c.args.levels.now c.loop-at.out c.loop-at.copied c.loop-at.at g.T.TextSource.encoding.positive c.loop-at.invariant (omega (arith, c.loop-at-test.true, c.len-at-end.ensures, c.requires.same_len))

pub overflow_add-copied : goal.overflow_add-copied
overflow_add-copied g c =
    let below : c.loop-at.copied < length c.loop-at.out = few_before g.T.TextSource.encoding.len_of (g.T.TextSource.text c.args.text).chars c.args.levels.now c.loop-at.out c.loop-at.copied c.loop-at.at g.T.TextSource.encoding.positive c.loop-at.invariant (omega (arith, c.loop-at-test.true, c.len-at-end.ensures, c.requires.same_len)) in
    search rules

pub loop-at-preserved : goal.loop-at-preserved
loop-at-preserved g c =
    let len = g.T.TextSource.encoding.len_of in
    let cs : List ℕ = (g.T.TextSource.text c.args.text).chars in
    let units = g.T.TextSource.encoding.positive in
    let levels = c.args.levels.now in
    let read = c.index-levels-at.is ∙ get_or_default levels c.loop-at.at c.index-levels-at.result 0 (omega (arith, c.loop-at-test.true, c.len-at-end.ensures, c.requires.same_len)) in
    let new = slice_set c.loop-at.out c.loop-at.copied c.index-levels-at.result in
    elim (cases_Bool (is_boundary len cs c.loop-at.at)) [
      | inl begins ↦ subst (λ n. IsTaken len cs levels new n (c.loop-at.at + 1)) (grind (arith, common_steps, begins, c.from-copied.ensures, c.is_boundary.ensures))
          (IsTaken-more len cs levels units c.loop-at.out c.loop-at.copied c.loop-at.at c.index-levels-at.result begins (omega (arith, c.loop-at-test.true, c.len-at-end.ensures)) c.requires.same_len read c.loop-at.invariant)
      | inr inside ↦ subst (λ n. IsTaken len cs levels new n (c.loop-at.at + 1)) (grind (arith, common_steps, inside, c.from-copied.ensures, c.is_boundary.ensures))
          (IsTaken-inside len cs levels units c.loop-at.out c.loop-at.copied c.loop-at.at c.index-levels-at.result inside c.loop-at.invariant)
    ]

pub returns-clause-count : goal.returns-clause-count
returns-clause-count g c =
    let len = g.T.TextSource.encoding.len_of in
    let cs : List ℕ = (g.T.TextSource.text c.args.text).chars in
    let end : c.loop-at.at ≡ text_len len cs = omega (arith, c.loop-at-test.false, c.loop-at.auto.at-end, c.len-at-end.ensures) in
    IsTaken-end len cs c.args.levels.now g.T.TextSource.encoding.positive c.loop-at.out c.loop-at.copied (subst (λ at. IsTaken len cs c.args.levels.now c.loop-at.out c.loop-at.copied at) end c.loop-at.invariant)

pub returns-clause-written : goal.returns-clause-written
returns-clause-written g c =
    taken-all g.T.TextSource.encoding.len_of (g.T.TextSource.text c.args.text).chars c.args.levels.now c.loop-at.out c.loop-at.copied c.loop-at.at (returns-clause-count g c) c.loop-at.invariant
