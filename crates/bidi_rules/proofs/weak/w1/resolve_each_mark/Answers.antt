use Rattle.bidi_base.proofs.Common.{◌≡◌, ◌+◌, ◌<◌, ℕ, true, false, length, ap, subst, ◌∙◌, arith, and_from, and_right, is_kept_in_place, is_nsm, class_at, in_runs, carried, set-get_or}
use Rattle.bidi_base.specs.declared.char_data.BidiClass.{BidiClass}
use Rattle.bidi_base.specs.declared.char_data.BidiClass.TheVariants.{L}
use Rattle.bidi_rules.specs.WeakPass.{marked}
use Rattle.bidi_rules.specs.WeakWalk.{AreMarked}
use Rattle.bidi_rules.proofs.WeakMarks.{AreMarked-unseen, AreMarked-more}
use Rattle.bidi_rules.proofs.weak.w1.resolve_each_mark.Goals as goal
use Rattle.bidi_rules.proofs.weak.w1.resolve_each_mark.Goals.{then-is_nsm, else-is_nsm+then-is_kept_in_place, else-is_nsm+else-is_kept_in_place}

carried-twice : (c : BidiClass) → carried (carried c) ≡ carried c
carried-twice c = grind arith

-- a mark takes it, and is kept
mark_takes : (m c : BidiClass) → is_nsm c ≡ true → marked m c ≡ m
mark_takes m c is = grind arith

mark_kept : (c : BidiClass) → is_nsm c ≡ true → is_kept_in_place c ≡ true
mark_kept c is = grind arith

other_stays : (m c : BidiClass) → is_nsm c ≡ false → marked m c ≡ c
other_stays m c none = grind arith

pub loop-unit-preserved : goal.loop-unit-preserved
loop-unit-preserved g c = (
  λ runs sos old in_run begin.
      let i = c.loop-unit.unit in
      let now = c.loop-unit.classes in
      let last = c.loop-unit.last in
      let x = class_at now i in
      let h = c.loop-unit.invariant.0 runs sos old in_run begin in
      let read : x ≡ class_at old i = h.unread i (omega arith) in
      let fits = c.loop-unit.auto in
      let within : i < length old = omega (arith, c.requires.within, h.long, fits.classes, c.loop-unit-test.true) in
      elim c.if-is_nsm.branch [
        | then-is_nsm b ↦
            let is : is_nsm x ≡ true = grind arith in
            let kept : is_kept_in_place (class_at old i) ≡ true = simp read at (mark_kept x is) in
            rw (b.classes-is, b.last-is, b.carried.ensures)
            (simp (mark_takes (carried last) x is, carried-twice last) at (AreMarked-more runs sos old now (carried last) i h within (and_from (in_runs runs i) (is_kept_in_place (class_at old i)) (in_run i (omega arith) c.loop-unit-test.true) kept)))
        | else-is_nsm+then-is_kept_in_place b ↦
            let none : is_nsm x ≡ false = grind arith in
            let kept : is_kept_in_place (class_at old i) ≡ true = grind arith in
            rw (b.classes-is, b.last-is)
            (simp (other_stays (carried last) x none, set-get_or now i L) at (AreMarked-more runs sos old now (carried last) i h within (and_from (in_runs runs i) (is_kept_in_place (class_at old i)) (in_run i (omega arith) c.loop-unit-test.true) kept)))
        | else-is_nsm+else-is_kept_in_place b ↦
            let gone : is_kept_in_place (class_at old i) ≡ false = grind arith in
            rw (b.classes-is, b.last-is)
            (AreMarked-unseen runs sos old now (carried last) i h (i + 1) (omega arith) (omega (arith, within))
            (λ k from below. let same : k ≡ i = omega arith in and_right (in_runs runs k) (is_kept_in_place (class_at old k)) (ap (λ (u : ℕ). is_kept_in_place (class_at old u)) same ∙ gone)))
      ],
  omega arith,
)

pub returns-clause-marked : goal.returns-clause-marked
returns-clause-marked g c =
    λ runs sos old in_run begin.
    let top : c.loop-unit.unit ≡ c.args.end = omega (arith, c.requires.ordered, c.loop-unit-test.false, c.loop-unit.auto.unit, c.loop-unit.auto.unit-end) in
    subst (λ (u : ℕ). AreMarked runs sos old c.loop-unit.classes (carried c.loop-unit.last) u) top (c.loop-unit.invariant.0 runs sos old in_run begin)
