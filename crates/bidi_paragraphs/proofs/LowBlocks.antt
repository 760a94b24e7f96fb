-- A block of characters below U+0800 whose classes are looked up and written one after another.
use Rattle.bidi_base.proofs.Common.{◌≡◌, ◌∙◌, ℕ, ◌+◌, ◌<◌, ◌≤◌, false, List, length, take, get_or, set, ap, inl, inr, arith, cases_eq, class_at, Source, take-set-le, get_or-set_other}
use Rattle.bidi_base.proofs.Common.{get_or-set_same}
use Rattle.bidi_base.specs.declared.char_data.BidiClass.{BidiClass}
use Rattle.bidi_base.specs.declared.char_data.BidiClass.TheVariants.{L}
use Rattle.bidi_paragraphs.specs.declared.class_set.ClassSet.{ClassSet}
use Rattle.bidi_paragraphs.specs.ClassSet.{has}

-- the classes of the first i of sixteen characters are written from `start` on, and none of them is sought
pub record IsIdle (source : Source) (block : List ℕ) (start : ℕ) (sought : ClassSet) (old : List BidiClass) (i : ℕ) (new : List BidiClass) : Type 0 where
  pub kept : take start new ≡ take start old
  pub written : (k : ℕ) → k < i → class_at new (start + k) ≡ source.class_of (get_or block k 0)
  pub idle : (k : ℕ) → k < i → has sought (class_at new (start + k)) ≡ false

module _ (source : Source) (block : List ℕ) (start : ℕ) (sought : ClassSet) (old : List BidiClass) where
  pub IsIdle-none : IsIdle source block start sought old 0 old
  IsIdle-none = record { kept = grind arith; written = λ k none. absurd (omega (arith, none)); idle = λ k none. absurd (omega (arith, none)) }

  module _ (i : ℕ) (new : List BidiClass) (h : IsIdle source block start sought old i new) (within : start + i < length new) (class : BidiClass) (is : class ≡ source.class_of (get_or block i 0)) where
    there : (k : ℕ) → k < i → class_at (set new (start + i) class) (start + k) ≡ class_at new (start + k)
    there k below = get_or-set_other new (start + i) (start + k) class L (omega (arith, below))

    own : class_at (set new (start + i) class) (start + i) ≡ class
    own = get_or-set_same new (start + i) class L within

    -- one more is written, whether or not the pass stops at it
    pub written-more : (k : ℕ) → k ≤ i → class_at (set new (start + i) class) (start + k) ≡ source.class_of (get_or block k 0)
    written-more k le = elim (cases_eq k i) [
      | inl same ↦ cc (own, same, is)
      | inr other ↦ there k (omega (arith, le, other)) ∙ h.written k (omega (arith, le, other))
    ]

    pub IsIdle-more : has sought class ≡ false → IsIdle source block start sought old (i + 1) (set new (start + i) class)
    IsIdle-more idle = record {
      kept = take-set-le start new (start + i) class (omega arith) ∙ h.kept;
      written = λ k below. written-more k (omega (arith, below));
      idle = λ k below. elim (cases_eq k i) [
        | inl same ↦ cc (own, same, idle)
        | inr other ↦ ap (has sought) (there k (omega (arith, below, other))) ∙ h.idle k (omega (arith, below, other))
      ];
    }
