-- A block of ASCII characters whose classes are looked up and written one after another.
use Rattle.bidi_base.proofs.Common.{◌≡◌, ◌∙◌, ℕ, ◌+◌, ◌^◌, ◌<◌, zero, suc, true, false, subst, List, length, take, get_or, set, refl, sym, ap, inl, inr, arith, add-one, cases_eq, class_at, class_count, Source}
use Rattle.bidi_base.proofs.Common.{take-set-le, get_or-set_other, get_or-set_same}
use Rattle.bidi_base.specs.declared.char_data.BidiClass.{BidiClass}
use Rattle.bidi_base.specs.declared.char_data.BidiClass.TheVariants.{L}
use Rattle.bidi_paragraphs.specs.declared.class_set.ClassSet.{ClassSet}
use Rattle.bidi_paragraphs.specs.declared.paragraph_flags.ParagraphFlags.{ParagraphFlags}
use Rattle.bidi_paragraphs.specs.ClassSet.{has, with, any_of}
use Rattle.bidi_paragraphs.specs.FirstPass.{set_of_first}
use Rattle.bidi_paragraphs.specs.ParagraphFlags.{with_set}
use Rattle.bidi_paragraphs.proofs.ClassSets.{has-with, with-small, any_of-apart}
use Rattle.bidi_paragraphs.proofs.FlagsLemmas.{AreSought, other-idle, other-same, flags_to, flags_to-set, flags_to-same}

has_itself : (set : ClassSet) (c : BidiClass) → has (with set c) c ≡ true
has_itself set c = grind (arith, has-with)

has_more : (set : ClassSet) (c d : BidiClass) → has set d ≡ true → has (with set c) d ≡ true
has_more set c d there = grind (arith, has-with)

module _ (source : Source) (block : List ℕ) where
  -- the set of the classes of the first characters has each of them, and no bits but those of classes
  pub set_of_first-has : (n k : ℕ) → k < n → has (set_of_first source block n) (source.class_of (get_or block k 0)) ≡ true
  set_of_first-has zero k below = absurd (omega (arith, below))
  set_of_first-has (suc n) k below = elim (cases_eq k n) [
    | inl same ↦ ap (λ j. has (set_of_first source block (suc n)) (source.class_of (get_or block j 0))) same ∙ has_itself (set_of_first source block n) (source.class_of (get_or block n 0))
    | inr other ↦ has_more (set_of_first source block n) (source.class_of (get_or block n 0)) _ (set_of_first-has n k (omega (arith, below, other)))
  ]

  pub set_of_first-small : (n : ℕ) → (set_of_first source block n).bits < 2 ^ class_count
  set_of_first-small zero = omega arith
  set_of_first-small (suc n) = with-small (set_of_first source block n) (source.class_of (get_or block n 0)) (set_of_first-small n)

-- the first i of the bytes of a block are written from `start` on, and the set has their classes
pub record IsWritten (source : Source) (block : List ℕ) (start : ℕ) (old : List BidiClass) (i : ℕ) (new : List BidiClass) (found : ClassSet) : Type 0 where
  pub kept : take start new ≡ take start old
  pub written : (k : ℕ) → k < i → class_at new (start + k) ≡ source.class_of (get_or block k 0)
  pub found_is : found ≡ set_of_first source block i

module _ (source : Source) (block : List ℕ) (start : ℕ) (old : List BidiClass) where
  pub IsWritten-none : IsWritten source block start old 0 old (record { bits = 0 })
  IsWritten-none = record { kept = grind arith; written = λ k none. absurd (omega (arith, none)); found_is = refl }

  module _ (i : ℕ) (new : List BidiClass) (found : ClassSet) (h : IsWritten source block start old i new found) (within : start + i < length new)
      (class : BidiClass) (is : class ≡ source.class_of (get_or block i 0)) where
    pub IsWritten-more : IsWritten source block start old (i + 1) (set new (start + i) class) (with found class)
    IsWritten-more = record {
      kept = take-set-le start new (start + i) class (omega arith) ∙ h.kept;
      written = λ k below. elim (cases_eq k i) [
        | inl same ↦ cc (get_or-set_same new (start + i) class L within, same, is)
        | inr other ↦ get_or-set_other new (start + i) (start + k) class L (omega (arith, other)) ∙ h.written k (omega (arith, below, other))
      ];
      found_is = ap (λ more. with more class) h.found_is ∙ ap (with (set_of_first source block i)) is ∙ ap (set_of_first source block) (sym (add-one i));
    }

-- ---- a block without a stop class

-- and the set of what is sought was made anew
pub record IsBlockPassed (source : Source) (block : List ℕ) (stop_classes : ClassSet) (old new : ParagraphFlags) (sought : ClassSet) : Type 0 where
  pub idle : (k : ℕ) → k < 16 → has stop_classes (source.class_of (get_or block k 0)) ≡ false
  pub own_flags : flags_to source block old 16 ≡ new
  pub are : AreSought sought stop_classes new

module _ (source : Source) (block : List ℕ) (stop_classes : ClassSet) (flags : ParagraphFlags) (found : ClassSet) (found_is : found ≡ set_of_first source block 16) where
  pub found-small : found.bits < 2 ^ class_count
  found-small = subst (λ (set : ClassSet). set.bits < 2 ^ class_count) (sym found_is) (set_of_first-small source block 16)

  apart : (set : ClassSet) → any_of set (has found) ≡ false → (k : ℕ) → k < 16 → has set (source.class_of (get_or block k 0)) ≡ false
  apart set none k below =
      any_of-apart set (has found) none (source.class_of (get_or block k 0)) (subst (λ (all : ClassSet). has all (source.class_of (get_or block k 0)) ≡ true) (sym found_is) (set_of_first-has source block 16 k below))

  -- a block of other classes than those that are sought
  pub IsBlockPassed-other : (sought : ClassSet) → AreSought sought stop_classes flags → any_of sought (has found) ≡ false → IsBlockPassed source block stop_classes flags flags sought
  IsBlockPassed-other sought are none = record {
    idle = λ k below. other-idle sought stop_classes flags are _ (apart sought none k below);
    own_flags = flags_to-same source block flags 16 (λ k below. other-same sought stop_classes flags are _ (apart sought none k below));
    are = are;
  }

  pub IsBlockPassed-noted : (sought : ClassSet) → AreSought sought stop_classes (with_set flags found) → any_of stop_classes (has found) ≡ false
      → IsBlockPassed source block stop_classes flags (with_set flags found) sought
  IsBlockPassed-noted sought are none = record {
    idle = apart stop_classes none;
    own_flags = flags_to-set source block flags 16 ∙ ap (with_set flags) (sym found_is);
    are = are;
  }
