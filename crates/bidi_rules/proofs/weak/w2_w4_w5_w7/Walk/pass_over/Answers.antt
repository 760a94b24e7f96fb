use Rattle.bidi_base.proofs.Common.{◌≡◌, ◌+◌, ◌-◌, ◌<◌, ◌≤◌, ℕ, false, arith, inl, inr, cases_lt, class_at}
use Rattle.bidi_rules.specs.WeakPass.{is_number_or_terminator}
use Rattle.bidi_rules.proofs.WeakWalkLemmas.{IsUnderWay-passes_all}
use Rattle.bidi_rules.proofs.weak.w2_w4_w5_w7.Walk.pass_over.Goals as goal

pub returns-clause-passes : goal.returns-clause-passes
returns-clause-passes g c p run fits starts ends h =
    let i = c.args.at in
    let now = c.args.classes.now in
    let found = c.first_passing_counted-next.ensures.first in
    let next = c.first_passing_counted-next.result in
    let n = next - i in
    let to : i + n ≡ next = omega (arith, found.begins) in
    let none : (k : ℕ) → i ≤ k → k < i + n → is_number_or_terminator (class_at now k) ≡ false =
    λ k from below. elim (cases_lt k (i + 1)) [
      | inl first ↦ grind arith
      | inr behind ↦ found.before k behind (omega (arith, to))
    ] in
    rw (c.unwrap_or-self.ensures, c.last_strong.ensures.last) (simp to at (IsUnderWay-passes_all p now c.args.self.now i run n h fits starts (omega (arith, found.begins)) (omega (arith, c.requires.inside, found.ends)) c.requires.other none))

pub returns-clause-stops : goal.returns-clause-stops
returns-clause-stops g c below = c.first_passing_counted-next.ensures.first.at below
