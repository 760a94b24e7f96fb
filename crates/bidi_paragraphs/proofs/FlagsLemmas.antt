-- What a paragraph's flags say of its classes.
use Rattle.bidi_base.proofs.Common.{◌≡◌, ◌∙◌, ℕ, ◌<◌, ◌^◌, ◌==◌, zero, suc, bit_or, Bool, false, not, ◌||◌, List, [], ◌∷◌, ◌++◌, length, get_or, arith, refl, sym, ap, inl, inr, cases_eq}
use Rattle.bidi_base.proofs.Common.{cases_Bool, common_steps, nat_tests, list_any, class_number, Source, is_isolate_initiator, is_opener, is_removed, may_turn, is_pure_ltr, is_flat, may_leave, or_assoc}
use Rattle.bidi_base.proofs.Common.{or-false, bit_and, bit_at, bit_at_or, bit_at_and, bit_at-zero, bit_at-lt, bit_at-pow_other, same_from_bits, keeps_to}
use Rattle.std.proofs.lemmas.Nat.Bits.{bit_at-pow_same}
use Rattle.bidi_base.specs.declared.char_data.BidiClass.{BidiClass}
use Rattle.bidi_paragraphs.specs.ClassSet.{has, with, any_of}
use Rattle.bidi_paragraphs.specs.FirstPass.{set_of_first}
use Rattle.bidi_paragraphs.specs.ParagraphFlags.{is_counted, is_missing, counted_set, with_set, with_class, with_classes, flags_of}
use Rattle.bidi_paragraphs.specs.declared.class_set.ClassSet.{ClassSet}
use Rattle.bidi_paragraphs.specs.declared.paragraph_flags.ParagraphFlags.{ParagraphFlags}
use Rattle.bidi_paragraphs.proofs.ClassSets.{any_of-with, any_of-empty, with-same}

pub with_classes-push : (flags : ParagraphFlags) (classes : List BidiClass) (c : BidiClass) → with_classes flags (classes ++ c ∷ []) ≡ with_class (with_classes flags classes) c
with_classes-push flags [] c = refl
with_classes-push flags (b ∷ classes) c = with_classes-push (with_class flags b) classes c

pub with_classes-append : (flags : ParagraphFlags) (xs ys : List BidiClass) → with_classes flags (xs ++ ys) ≡ with_classes (with_classes flags xs) ys
with_classes-append flags [] ys = refl
with_classes-append flags (x ∷ xs) ys = with_classes-append (with_class flags x) xs ys

-- a class that is not missing changes nothing
pub with_class-same : (flags : ParagraphFlags) (c : BidiClass) → is_missing flags c ≡ false → with_class flags c ≡ flags
with_class-same flags c there = grind (arith, with-same)

-- ---- what is sought

-- the classes of a set, and those that are missing
abbrev pub AreSought : ClassSet → ClassSet → ParagraphFlags → Type 0
AreSought sought stop_classes flags = (c : BidiClass) → has sought c ≡ (has stop_classes c || is_missing flags c)

module _ (sought stop_classes : ClassSet) (flags : ParagraphFlags) (are : AreSought sought stop_classes flags) (c : BidiClass) (other : has sought c ≡ false) where
  -- any other class is no stop class, and changes no flag
  pub other-idle : has stop_classes c ≡ false
  other-idle = grind (arith, are c)

  pub other-same : with_class flags c ≡ flags
  other-same = with_class-same flags c (grind (arith, are c))

-- ---- the flags of a block, by the set of its classes

pub counted_set-has : (c : BidiClass) → has counted_set c ≡ is_counted c
counted_set-has c = grind arith

module _ (f s m n : ℕ) where
  at_its_own : (i : ℕ) → i ≡ n → bit_at (2 ^ n) i ≡ 1
  at_its_own i same = ap (bit_at (2 ^ n)) same ∙ bit_at-pow_same n

  one_more_bit : bit_at m n ≡ 1 → bit_or (bit_or f (bit_and s m)) (2 ^ n) ≡ bit_or f (bit_and (bit_or s (2 ^ n)) m)
  one_more_bit there = same_from_bits _ _ (λ i.
      elim (cases_eq i n) [
        | inl same ↦ omega (arith, bit_at_or (bit_or f (bit_and s m)) (2 ^ n) i, bit_at_or f (bit_and s m) i, bit_at_and s m i, bit_at_or f (bit_and (bit_or s (2 ^ n)) m) i, bit_at_and (bit_or s (2 ^ n)) m i, bit_at_or s (2 ^ n) i, at_its_own i same, ap (bit_at m) same, there, bit_at-lt f i, bit_at-lt s i)
        | inr other ↦ omega (arith, bit_at_or (bit_or f (bit_and s m)) (2 ^ n) i, bit_at_or f (bit_and s m) i, bit_at_and s m i, bit_at_or f (bit_and (bit_or s (2 ^ n)) m) i, bit_at_and (bit_or s (2 ^ n)) m i, bit_at_or s (2 ^ n) i, bit_at-pow_other n i other)
      ])

  no_more_bit : bit_at m n ≡ 0 → bit_or f (bit_and s m) ≡ bit_or f (bit_and (bit_or s (2 ^ n)) m)
  no_more_bit none = same_from_bits _ _ (λ i.
      elim (cases_eq i n) [
        | inl same ↦ omega (arith, bit_at_or f (bit_and s m) i, bit_at_and s m i, bit_at_or f (bit_and (bit_or s (2 ^ n)) m) i, bit_at_and (bit_or s (2 ^ n)) m i, ap (bit_at m) same, none)
        | inr other ↦ omega (arith, bit_at_or f (bit_and s m) i, bit_at_and s m i, bit_at_or f (bit_and (bit_or s (2 ^ n)) m) i, bit_at_and (bit_or s (2 ^ n)) m i, bit_at_or s (2 ^ n) i, bit_at-pow_other n i other)
      ])

no_bits : (f m : ℕ) → bit_or f (bit_and 0 m) ≡ f
no_bits f m = same_from_bits _ _ (λ i. omega (arith, bit_at_or f (bit_and 0 m) i, bit_at_and 0 m i, bit_at-zero i))

bit_of : (b : ℕ) (test : Bool) → b < 2 → (b == 1) ≡ test → test ≡ false → b ≡ 0
bit_of b test small is none = grind (arith, nat_tests)

with_set-with : (flags : ParagraphFlags) (set : ClassSet) (c : BidiClass) → with_class (with_set flags set) c ≡ with_set flags (with set c)
with_set-with flags set c = elim (cases_Bool (is_counted c)) [
  | inl counted ↦
      let there : bit_at counted_set.bits (class_number c) ≡ 1 = grind (arith, nat_tests, counted_set-has c) in
      simp counted (λ i. record { seen = record { bits = one_more_bit flags.seen.bits set.bits counted_set.bits (class_number c) there i } })
  | inr other ↦
      let none = bit_of (bit_at counted_set.bits (class_number c)) _ (bit_at-lt counted_set.bits (class_number c)) (counted_set-has c) other in
      simp other (λ i. record { seen = record { bits = no_more_bit flags.seen.bits set.bits counted_set.bits (class_number c) none i } })
]

-- the flags with those of the first n characters of a block
abbrev pub flags_to : Source → List ℕ → ParagraphFlags → ℕ → ParagraphFlags
flags_to source block flags zero = flags
flags_to source block flags (suc n) = with_class (flags_to source block flags n) (source.class_of (get_or block n 0))

pub flags_to-set : (source : Source) (block : List ℕ) (flags : ParagraphFlags) (n : ℕ) → flags_to source block flags n ≡ with_set flags (set_of_first source block n)
flags_to-set source block flags zero = λ i. record { seen = record { bits = sym (no_bits flags.seen.bits counted_set.bits) i } }
flags_to-set source block flags (suc n) =
    let class = source.class_of (get_or block n 0) in
    ap (λ more. with_class more class) (flags_to-set source block flags n) ∙ with_set-with flags (set_of_first source block n) class

pub flags_to-same : (source : Source) (block : List ℕ) (flags : ParagraphFlags) (n : ℕ)
    → ((k : ℕ) → k < n → with_class flags (source.class_of (get_or block k 0)) ≡ flags) → flags_to source block flags n ≡ flags
flags_to-same source block flags zero same = refl
flags_to-same source block flags (suc n) same =
    let class = source.class_of (get_or block n 0) in
    ap (λ more. with_class more class) (flags_to-same source block flags n (λ k below. same k (omega (arith, below)))) ∙ same n (omega arith)

-- no class passes the test but one that is counted
abbrev IsOfCounted : (BidiClass → Bool) → Type 0
IsOfCounted test = (c : BidiClass) → is_counted c ≡ false → test c ≡ false

module _ (test : BidiClass → Bool) (of_counted : IsOfCounted test) where
  one_more : (flags : ParagraphFlags) (c : BidiClass) → any_of (with_class flags c).seen test ≡ (any_of flags.seen test || test c)
  one_more flags c = grind (arith, any_of-with)

  all_more : (flags : ParagraphFlags) (classes : List BidiClass) → any_of (with_classes flags classes).seen test ≡ (any_of flags.seen test || list_any test classes)
  all_more flags [] = simp or-false
  all_more flags (c ∷ classes) = simp (all_more (with_class flags c) classes, one_more, or_assoc)

  pub any_of-flags_of : (classes : List BidiClass) → any_of (flags_of classes).seen test ≡ list_any test classes
  any_of-flags_of classes = grind (arith, all_more, any_of-empty)

-- ---- the tests of the flags

module _ (flags : ParagraphFlags) (classes : List BidiClass) (is : flags ≡ flags_of classes) where
  pub has_isolates-flags : any_of flags.seen is_isolate_initiator ≡ list_any is_isolate_initiator classes
  has_isolates-flags = grind (arith, any_of-flags_of)

  pub is_pure_ltr-flags : not (any_of flags.seen may_turn) ≡ is_pure_ltr classes
  is_pure_ltr-flags = grind (arith, any_of-flags_of)

  pub is_flat-flags : not (any_of flags.seen is_opener) ≡ is_flat classes
  is_flat-flags = grind (arith, any_of-flags_of)

  pub has_removed-flags : any_of flags.seen is_removed ≡ list_any is_removed classes
  has_removed-flags = grind (arith, any_of-flags_of)

  pub keeps_to-flags : (level : ℕ) → not (any_of flags.seen (may_leave level)) ≡ keeps_to level classes
  keeps_to-flags level = grind (arith, any_of-flags_of)

-- a paragraph that may leave its level is not empty
pub some-keeps_to : (level : ℕ) (classes : List BidiClass) → keeps_to level classes ≡ false → 0 < length classes
some-keeps_to level classes e = grind (arith, common_steps)
