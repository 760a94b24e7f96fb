use Rattle.bidi_base.proofs.Common.{◌≡◌, ℕ, Bool, refl, sym, ap, ◌∙◌, arith, is_kept_in_place, class_at}
use Rattle.bidi_base.specs.declared.char_data.BidiClass.TheVariants.{L}
use Rattle.bidi_base.proofs.UpdatedLemmas.{IsUpdated-skip, IsUpdated-set, IsUpdated-end}
use Rattle.bidi_rules.proofs.neutral.pairs.write_bracket.Goals as goal
use Rattle.bidi_rules.proofs.neutral.pairs.write_bracket.Goals.{then-is_kept_in_place, else-is_kept_in_place}

pub loop-unit-preserved : goal.loop-unit-preserved
loop-unit-preserved c =
    let old = c.args.classes.now in
    let now = c.loop-unit.classes in
    let class = c.args.direction in
    let from = c.args.bracket.unit in
    let i = c.loop-unit.unit in
    let h = c.loop-unit.invariant.0 in
    let test : ℕ → Bool = λ (k : ℕ). is_kept_in_place (class_at old k) in
    let answer : c.is_kept_in_place.result ≡ test i = c.is_kept_in_place.ensures ∙ ap is_kept_in_place (h.above i (omega arith)) in (
      elim c.if-is_kept_in_place.branch [
        | then-is_kept_in_place w ↦ rw w.classes-is (IsUpdated-set L test (λ x. class) from old i now class (omega arith) (omega (arith, c.requires)) (sym answer ∙ w.if-is_kept_in_place.true) refl h)
        | else-is_kept_in_place w ↦ rw w.classes-is (IsUpdated-skip L test (λ x. class) from old i now (sym answer ∙ w.if-is_kept_in_place.false) h)
      ],
      λ none. absurd (omega arith),
    )

pub returns : goal.returns
returns c =
    let old = c.args.classes.now in
    IsUpdated-end L (λ k. is_kept_in_place (class_at old k)) (λ x. c.args.direction) c.args.bracket.unit old c.loop-unit.unit c.args.bracket.end c.loop-unit.classes (λ h. omega arith) (omega arith) c.loop-unit.invariant.1 c.loop-unit.invariant.0
