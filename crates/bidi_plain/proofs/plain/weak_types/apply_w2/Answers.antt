use Rattle.bidi_base.proofs.Common.{◌≡◌, ℕ, ◌+◌, ◌<◌, cond, List, length, get_or, set, refl, arith, is_strong, is_al, is_en, w2_rule}
use Rattle.bidi_base.specs.declared.char_data.BidiClass.{BidiClass}
use Rattle.bidi_base.specs.declared.char_data.BidiClass.TheVariants.{L, EN, AN}
use Rattle.bidi_laws.proofs.InPlace.{IsRewritten-end}
use Rattle.bidi_plain.proofs.Scans.{IsScanned, IsScanned-write}
use Rattle.bidi_plain.proofs.plain.weak_types.apply_w2.Goals as goal
use Rattle.bidi_plain.proofs.plain.weak_types.apply_w2.Goals.{in-L, in-EN+then-eq, in-EN+else-eq, in_default}

-- one more class: a number goes by the nearest strong class, and others stay
step : {sos : BidiClass} {old now : List BidiClass} {s t x y : BidiClass} {i : ℕ} → IsScanned (w2_rule sos) is_strong sos old now s i → i < length old → get_or now i L ≡ x
    → t ≡ cond (is_strong x) x s → y ≡ cond (is_en x) (cond (is_al s) AN EN) x → IsScanned (w2_rule sos) is_strong sos old (set now i y) t (i + 1)
step {sos} {old} {now} {s} {t} {x} {y} {i} h fits is next e =
    IsScanned-write (w2_rule sos) is_strong sos old now s t i x y h fits is next (λ before after near. grind arith)

pub loop-class-preserved : goal.loop-class-preserved
loop-class-preserved c = elim c.match-class.branch [
  | in-L w ↦ rw (w.classes-is, w.strong-is) (step c.loop-class.invariant c.loop-class-test.true refl (grind arith) (grind arith))
  | in-EN+then-eq w ↦ rw (w.classes-is, w.strong-is) (step c.loop-class.invariant c.loop-class-test.true refl (grind arith) (grind arith))
  | in-EN+else-eq w ↦ rw (w.classes-is, w.strong-is) (step c.loop-class.invariant c.loop-class-test.true refl (grind arith) (grind arith))
  | in_default w ↦ rw (w.classes-is, w.strong-is) (step c.loop-class.invariant c.loop-class-test.true refl (grind arith) (grind arith))
]

pub returns : goal.returns
returns c = grind (arith, IsRewritten-end)
