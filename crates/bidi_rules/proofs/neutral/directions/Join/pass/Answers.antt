use Rattle.bidi_base.proofs.Common.{◌≡◌, ◌<◌, ◌≤◌, ◌&&◌, ℕ, cases_eq, true, false, not, Bool, refl, ap, ◌∙◌, arith, is_kept_in_place, stands_for, class_at}
use Rattle.bidi_base.specs.declared.char_data.BidiClass.{BidiClass}
use Rattle.bidi_rules.proofs.JoinWalk.{IsUnderWay-stretch}
use Rattle.bidi_rules.proofs.neutral.directions.Join.pass.Goals as goal

kept-stands : (b kept : Bool) → (not b && kept) ≡ false → kept ≡ true → b ≡ true
kept-stands b kept h is = grind arith

pub returns-clause-reads : goal.returns-clause-reads
returns-clause-reads c = λ s same fits from upto j.
    let f = c.first_passing-next.ensures in
    let now = c.args.classes.now in
    let next = c.first_passing-next.result in
    let some : c.args.at < next = omega (arith, f.begins) in
    let all : (k : ℕ) → c.args.at ≤ k → k < next → is_kept_in_place (class_at now k) ≡ true → stands_for c.args.self.now.opposite (class_at now k) ≡ true =
    λ k a b is. grind (arith, cases_eq k c.args.at, c.requires.there, kept-stands (stands_for c.args.self.now.opposite (class_at now k)) (is_kept_in_place (class_at now k)), f.before k) in
    IsUnderWay-stretch s now (record { opposite = c.args.self.now.opposite; waits = true; first = next; first_run = c.args.run }) c.args.self.now.waits c.args.run c.args.at next refl refl refl fits from
    (omega (arith, f.ends)) (omega (arith, f.ends, c.requires.inside, j.long)) some
    (ap (λ (d : BidiClass). stands_for d (class_at now c.args.at)) same ∙ c.requires.there)
    (λ k a b is. ap (λ (d : BidiClass). stands_for d (class_at now k)) same ∙ all k a b is) j
