use Rattle.bidi_base.proofs.Common.{◌≡◌, ℕ, ◌+◌, ◌-◌, ◌%◌, ◌<◌, Bool, true, false, bit_or, refl, ap₂, ◌∙◌, arith, if◌then◌else◌}
use mir.Val.{bool_byte}
use Rattle.std.specs.Int.Bits.{bit_and, and_zero_r, or_zero_l, or_zero_r}
use Rattle.std.proofs.lemmas.Grind.{and_numeral}
use Rattle.bidi_lines.proofs.line_text.reversed_utf8.choose.Goals as goal

-- a mask of all bits keeps a byte
kept : (x : ℕ) → x < 256 → bit_and x 255 ≡ x
kept x fits = and_numeral x 254 refl ∙ omega arith

-- a mask chooses one of two bytes
chosen : (test : Bool) (held other mask one : ℕ) → held < 256 → other < 256 → one ≡ bool_byte test → mask ≡ (0 + (256 - one)) % 256
    → bit_or (bit_and held mask) (bit_and other (255 - mask)) ≡ (if test then held else other)
chosen true held other mask one fits small is of =
    let all : mask ≡ 255 = omega arith in
    let none : 255 - mask ≡ 0 = omega arith in
    simp (none, all) (ap₂ bit_or (kept held fits) (and_zero_r other) ∙ or_zero_r held)
chosen false held other mask one fits small is of =
    let none : mask ≡ 0 = omega arith in
    let all : 255 - mask ≡ 255 = omega arith in
    simp (all, none) (ap₂ bit_or (and_zero_r held) (kept other small) ∙ or_zero_l other)

pub returns : goal.returns
returns c = chosen c.args.test c.args.held c.args.other ((0 + (256 - c.from-mask.result)) % 256) c.from-mask.result c.ranges.held.fits c.ranges.other.fits c.from-mask.ensures refl
