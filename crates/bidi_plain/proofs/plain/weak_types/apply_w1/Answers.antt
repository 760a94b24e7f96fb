use Rattle.bidi_base.proofs.Common.{◌≡◌, ℕ, ◌+◌, ◌<◌, not, cond, List, length, get_or, set, refl, arith, is_nsm, carried, w1_rule}
use Rattle.bidi_base.specs.declared.char_data.BidiClass.{BidiClass}
use Rattle.bidi_base.specs.declared.char_data.BidiClass.TheVariants.{L}
use Rattle.bidi_laws.proofs.InPlace.{IsRewritten-end}
use Rattle.bidi_plain.proofs.Scans.{IsScanned, IsScanned-write}
use Rattle.bidi_plain.proofs.plain.weak_types.apply_w1.Goals as goal
use Rattle.bidi_plain.proofs.plain.weak_types.apply_w1.Goals.{in-NSM, in_default}

-- one more class: a mark takes what the class before it carries, and others stay
step : {sos : BidiClass} {old now : List BidiClass} {s t x y : BidiClass} {i : ℕ} → IsScanned (w1_rule sos) (λ c. not (is_nsm c)) sos old now s i → i < length old → get_or now i L ≡ x
    → t ≡ cond (is_nsm x) s x → y ≡ cond (is_nsm x) (carried s) x → IsScanned (w1_rule sos) (λ c. not (is_nsm c)) sos old (set now i y) t (i + 1)
step {sos} {old} {now} {s} {t} {x} {y} {i} h fits is next e =
    IsScanned-write (w1_rule sos) (λ c. not (is_nsm c)) sos old now s t i x y h fits is (grind arith) (λ before after near. grind arith)

pub loop-class-preserved : goal.loop-class-preserved
loop-class-preserved c = elim c.match-class.branch [
  | in-NSM w ↦ rw (w.classes-is, w.previous-is) (step c.loop-class.invariant c.loop-class-test.true refl (grind arith) (grind arith))
  | in_default w ↦ rw (w.classes-is, w.previous-is) (step c.loop-class.invariant c.loop-class-test.true refl (grind arith) (grind arith))
]

pub returns : goal.returns
returns c = grind (arith, IsRewritten-end)
