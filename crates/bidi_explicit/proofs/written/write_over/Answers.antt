use Rattle.bidi_base.proofs.Common.{◌≡◌, ℕ, Bool, get_or, sym, ◌∙◌, ap, inl, inr, arith, cases_Bool, is_kept_in_place, set-get_or}
use Rattle.bidi_base.specs.declared.char_data.BidiClass.TheVariants.{L}
use Rattle.bidi_base.proofs.UpdatedLemmas.{IsUpdated-skip, IsUpdated-set, IsUpdated-end}
use Rattle.bidi_explicit.proofs.written.write_over.Goals as goal

pub loop-unit-preserved : goal.loop-unit-preserved
loop-unit-preserved g c =
    let old = c.args.classes.now in
    let now = c.loop-unit.classes in
    let class = c.args.class in
    let from = c.args.from in
    let i = c.loop-unit.unit in
    let h = c.loop-unit.invariant.0 in
    let test : ℕ → Bool = λ (k : ℕ). is_kept_in_place (get_or old k L) in
    let reads : get_or now i L ≡ get_or old i L = h.above i (omega arith) in
    let answer : is_kept_in_place (get_or now i L) ≡ test i = ap is_kept_in_place reads in (
      elim (cases_Bool (is_kept_in_place (get_or now i L))) [
        | inl seen ↦
            let is : c.written_over.result ≡ class = grind arith in
            IsUpdated-set L test (λ x. class) from old i now c.written_over.result (omega arith) (omega (arith, c.requires)) (sym answer ∙ seen) is h
        | inr gone ↦
            let is : c.written_over.result ≡ get_or now i L = grind arith in
            simp (is, set-get_or) (IsUpdated-skip L test (λ x. class) from old i now (sym answer ∙ gone) h)
      ],
      λ none. absurd (omega arith),
      omega arith,
    )

pub returns-clause-written : goal.returns-clause-written
returns-clause-written g c =
    let old = c.args.classes.now in
    IsUpdated-end L (λ k. is_kept_in_place (get_or old k L)) (λ x. c.args.class) c.args.from old c.loop-unit.unit c.args.to c.loop-unit.classes (λ h. omega arith) (omega arith) (λ none. (c.loop-unit.invariant.1 none).0) c.loop-unit.invariant.0

pub returns-clause-steps : goal.returns-clause-steps
returns-clause-steps g c = grind arith
