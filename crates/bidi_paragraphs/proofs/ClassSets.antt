-- Sets of classes: what is in them, and which tests of what is in them agree.
use Rattle.bidi_base.proofs.Common.{◌≡◌, ℕ, ◌^◌, ◌<◌, ◌≢◌, bit_or, Bool, true, false, not, ◌==◌, ◌&&◌, ◌||◌, List, [], ◌∷◌, get_or, refl, arith, inl, inr, common_steps, list_any, cases_Bool}
use Rattle.bidi_base.proofs.Common.{cases_lt, both_ways, false_from_ne_true, list_any_none, list_any_at, class_count, class_number, same_class, bit_and, bit_at, bit_at_or, bit_at_and, bit_at-zero}
use Rattle.bidi_base.proofs.Common.{bit_at-pow_other, bit_at-lt, same_from_bits}
use Rattle.std.proofs.Common.{bit_xor}
use Rattle.std.proofs.Math.Nat.{min-zero}
use Rattle.std.proofs.lemmas.Nat.Bits.{bit_at_xor, bit_at_above}
use Rattle.std.proofs.lemmas.Nat.{or_lt}
use Rattle.bidi_base.specs.declared.char_data.BidiClass.{BidiClass}
use Rattle.bidi_base.specs.declared.char_data.BidiClass.TheVariants.{L}
use Rattle.bidi_paragraphs.specs.declared.class_set.ClassSet.{ClassSet}
use Rattle.bidi_paragraphs.specs.ClassSet.{has, with, any_of, every_class}

-- ---- one more class

pub apart_eqb : (k j : ℕ) → k ≢ j → (k == j) ≡ false
apart_eqb k j apart = grind arith

pub has-with : (set : ClassSet) (c d : BidiClass) → has (with set c) d ≡ (has set d || same_class c d)
has-with set c d = grind (arith, common_steps, bit_at_or)

-- of all classes, one is the class
any_same : (test : BidiClass → Bool) (c : BidiClass) → list_any (λ d. same_class c d && test d) every_class ≡ test c
any_same test c = grind arith

any_either : (p q test : BidiClass → Bool) (classes : List BidiClass)
    → list_any (λ d. (p d || q d) && test d) classes ≡ (list_any (λ d. p d && test d) classes || list_any (λ d. q d && test d) classes)
any_either p q test [] = refl
any_either p q test (d ∷ classes) = simp (any_either p q test classes) (grind arith)

pub any_of-with : (set : ClassSet) (c : BidiClass) (test : BidiClass → Bool) → any_of (with set c) test ≡ (any_of set test || test c)
unfolding any_of
any_of-with set c test = simp (has-with, any_either (has set) (same_class c) test every_class, any_same test c)

-- ---- tests

pub any_of-empty : (test : BidiClass → Bool) → any_of (record { bits = 0 }) test ≡ false
unfolding any_of
any_of-empty test = refl

-- ---- what two sets share

class_of_number : (k : ℕ) → k < class_count → class_number (get_or every_class k L) ≡ k
class_of_number k below = grind arith

module _ (a b : ClassSet) where
  bit_of_both : (c : BidiClass) → (bit_at (bit_and a.bits b.bits) (class_number c) == 1) ≡ (has a c && has b c)
  bit_of_both c = grind (arith, bit_at_and)

  none_of : bit_and a.bits b.bits ≡ 0 → (c : BidiClass) → (has a c && has b c) ≡ false
  none_of none c = simp (← bit_of_both c, none, bit_at-zero)

module _ (a b : ClassSet) (small : b.bits < 2 ^ class_count) where
  -- a bit of both is that of a class
  no_bit : list_any (λ c. has a c && has b c) every_class ≡ false → (k : ℕ) → bit_at (bit_and a.bits b.bits) k ≡ bit_at 0 k
  no_bit none k = elim (cases_lt k class_count) [
    | inl below ↦
        let c = get_or every_class k L in
        let none_here = false_from_ne_true (has a c && has b c) (λ some. both_ways _ none (list_any_at (λ d. has a d && has b d) every_class k L below some)) in
        grind (arith, class_of_number k below, bit_of_both a b c, none_here, bit_at-lt, bit_at-zero)
    | inr past ↦ simp (bit_at_and, bit_at_above b.bits class_count k small past, bit_at-zero, min-zero)
  ]

  -- the bits of both are none exactly if no class is in both
  pub intersects_any : not (bit_and a.bits b.bits == 0) ≡ any_of a (has b)
  unfolding any_of
  intersects_any = elim (cases_Bool (list_any (λ c. has a c && has b c) every_class)) [
    | inl some ↦
        let apart = λ (none : bit_and a.bits b.bits ≡ 0). both_ways _ (list_any_none (λ c. has a c && has b c) every_class (λ k d within. none_of a b none (get_or every_class k d))) some in
        simp (some, apart_eqb (bit_and a.bits b.bits) 0 apart)
    | inr none ↦ simp (none, same_from_bits (bit_and a.bits b.bits) 0 (no_bit none))
  ]

-- ---- two sets

pub union_has : (a b : ClassSet) (c : BidiClass) → (bit_at (bit_or a.bits b.bits) (class_number c) == 1) ≡ (has a c || has b c)
union_has a b c = grind (arith, bit_at_or)

pub without_has : (a b : ClassSet) (c : BidiClass) → (bit_at (bit_xor a.bits (bit_and a.bits b.bits)) (class_number c) == 1) ≡ (has a c && not (has b c))
without_has a b c = grind (arith, bit_at_xor, bit_at_and)

-- one more class keeps the bits below those of other classes
pub with-small : (set : ClassSet) (c : BidiClass) → set.bits < 2 ^ class_count → (with set c).bits < 2 ^ class_count
with-small set c small = or_lt class_count set.bits (2 ^ class_number c) small (grind arith)

-- a class that is there already
pub with-same : (set : ClassSet) (c : BidiClass) → has set c ≡ true → with set c ≡ set
with-same set c there = λ i. record { bits = same_from_bits (bit_or set.bits (2 ^ class_number c)) set.bits (λ k. grind (arith, bit_at_or, bit_at-lt, bit_at-pow_other)) i }

-- if none of the set passes the test, what passes is not in the set
pub any_of-apart : (set : ClassSet) (test : BidiClass → Bool) → any_of set test ≡ false → (c : BidiClass) → test c ≡ true → has set c ≡ false
any_of-apart set test none c passes = grind (arith, any_of-with set c test, with-same set c)
