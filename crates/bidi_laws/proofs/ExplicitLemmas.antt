-- Bounds on explicit levels.
use Rattle.bidi_base.proofs.Common.{◌≡◌, ℕ, ◌<◌, ◌≤◌, List, [], ◌∷◌, length, arith, le_refl, leb-true, cond-true, le-leb}
use Rattle.bidi_base.proofs.Common.{class_at, level_at, Status, override_of, next_level, status_inside, status_at}
use Rattle.bidi_base.proofs.Common.{explicit_level, explicit_class, explicit_levels, explicit_classes, processing_class, processing_classes, length-map-range_with_len, get_or-map-range_with_len}
use Rattle.bidi_base.specs.declared.char_data.BidiClass.{BidiClass}

-- an opener asks for a level that is one or two above
pub next_level-above : (opener : BidiClass) (level : ℕ) → level < next_level opener level
next_level-above opener level = grind arith

-- an opener that is taken, and the first that is not
pub status_inside-taken : (status : Status) (opener : BidiClass) (openers : List BidiClass) → next_level opener status.level ≤ 125
    → status_inside status (opener ∷ openers) ≡ status_inside (record { level = next_level opener status.level; override = override_of opener }) openers
unfolding status_inside
status_inside-taken status opener openers fits = cond-true _ _ _ (le-leb _ _ fits)

pub status_inside-refused : (status : Status) (opener : BidiClass) (openers : List BidiClass) → (next_level opener status.level ≤ 125 → ⊥) → status_inside status (opener ∷ openers) ≡ status
unfolding status_inside
status_inside-refused status opener openers high = grind arith

-- the level is no lower than at the start, and no higher than the greatest
pub record IsWithin (low level : ℕ) : Type 0 where
  pub above : low ≤ level
  pub below : level ≤ 125

pub status_inside-IsWithin : (status : Status) (openers : List BidiClass) → status.level ≤ 125 → IsWithin status.level (status_inside status openers).level
unfolding status_inside
status_inside-IsWithin status [] fits = record { above = le_refl _; below = fits }
status_inside-IsWithin status (opener ∷ openers) fits =
    grind (arith, leb-true, next_level-above opener status.level, status_inside-IsWithin (record { level = next_level opener status.level; override = override_of opener }) openers)

pub explicit_level-IsWithin : (para_level : ℕ) (classes : List BidiClass) (p : ℕ) → para_level ≤ 125 → IsWithin para_level (explicit_level para_level classes p)
unfolding explicit_level status_at
explicit_level-IsWithin para_level classes p fits = grind (arith, status_inside-IsWithin)

-- one level and one class a character
pub length-explicit_levels : (para_level : ℕ) (classes : List BidiClass) → length (explicit_levels para_level classes) ≡ length classes
unfolding explicit_levels
length-explicit_levels para_level classes = grind (arith, length-map-range_with_len)

pub length-explicit_classes : (para_level : ℕ) (classes : List BidiClass) → length (explicit_classes para_level classes) ≡ length classes
unfolding explicit_classes
length-explicit_classes para_level classes = grind (arith, length-map-range_with_len)

pub length-processing_classes : (para_level : ℕ) (classes : List BidiClass) → length (processing_classes para_level classes) ≡ length classes
unfolding processing_classes
length-processing_classes para_level classes = grind (arith, length-map-range_with_len)

pub level_at-explicit_levels : (para_level : ℕ) (classes : List BidiClass) (p : ℕ) → p < length classes → level_at (explicit_levels para_level classes) p ≡ explicit_level para_level classes p
unfolding explicit_levels
level_at-explicit_levels para_level classes p within = grind (arith, get_or-map-range_with_len)

pub class_at-explicit_classes : (para_level : ℕ) (classes : List BidiClass) (p : ℕ) → p < length classes → class_at (explicit_classes para_level classes) p ≡ explicit_class para_level classes p
unfolding explicit_classes
class_at-explicit_classes para_level classes p within = grind (arith, get_or-map-range_with_len)

pub class_at-processing_classes : (para_level : ℕ) (classes : List BidiClass) (p : ℕ) → p < length classes → class_at (processing_classes para_level classes) p ≡ processing_class para_level classes p
unfolding processing_classes
class_at-processing_classes para_level classes p within = grind (arith, get_or-map-range_with_len)
