-- What N0 for one pair leaves: all before its opening, and all within a later pair whose opening is no mark.
use Rattle.bidi_base.proofs.Common.{◌≡◌, ℕ, ◌+◌, ◌-◌, ◌<◌, ◌≤◌, false, List, length, arith, length-take, length-drop, get_or-take, get_or-drop, list_all_at, length-map-range_with_len}
use Rattle.bidi_base.proofs.Common.{get_or-map-range_with_len, is_nsm, class_at, IsBehindOrWithin, is_mark_after, goes_with_pair, with_pair, n0_pair, slice_range}
use Rattle.bidi_base.specs.declared.char_data.BidiClass.{BidiClass}
use Rattle.bidi_base.specs.declared.char_data.BidiClass.TheVariants.{L}

pub is_mark_after-before : (source_classes : List BidiClass) (b k : ℕ) → k ≤ b → is_mark_after source_classes b k ≡ false
unfolding is_mark_after
is_mark_after-before source_classes b k before = grind arith

-- the marks end where a character is none
pub is_mark_after-stopped : (source_classes : List BidiClass) (b m k : ℕ) → b < m → m ≤ k → m < length source_classes → is_nsm (class_at source_classes m) ≡ false → is_mark_after source_classes b k ≡ false
unfolding is_mark_after
is_mark_after-stopped source_classes b m k after to fits none =
    grind (
      arith,
      list_all_at is_nsm (slice_range source_classes (b + 1) (k + 1)) (m - (b + 1)) L,
      get_or-take,
      get_or-drop,
      length-take,
      length-drop,
    )

goes_with_none : (source_classes : List BidiClass) (pair : ℕ × ℕ) (k : ℕ) → (k ≡ pair.0 → ⊥) → (k ≡ pair.1 → ⊥)
    → is_mark_after source_classes pair.0 k ≡ false → is_mark_after source_classes pair.1 k ≡ false → goes_with_pair source_classes pair k ≡ false
unfolding goes_with_pair
goes_with_none source_classes pair k no_opening no_closing first last = grind arith

-- nor does anything within a later pair, if that does not open among the marks of this one
pub goes_with_pair-within : (source_classes : List BidiClass) (q p : ℕ × ℕ) (k : ℕ) → q.0 < q.1 → IsBehindOrWithin q p → p.0 < length source_classes
    → is_nsm (class_at source_classes p.0) ≡ false → p.0 < k → k < p.1 → goes_with_pair source_classes q k ≡ false
goes_with_pair-within source_classes q p k order h0 fits none from to = grind (arith, goes_with_none, is_mark_after-stopped, is_mark_after-before)

pub length-n0_pair : (e sos : BidiClass) (source_classes classes : List BidiClass) (pair : ℕ × ℕ) → length (n0_pair e sos source_classes classes pair) ≡ length classes
unfolding n0_pair with_pair
length-n0_pair e sos source_classes classes pair = grind (arith, length-map-range_with_len)

-- what does not go with the pair stays
pub n0_pair-elsewhere : (e sos : BidiClass) (source_classes classes : List BidiClass) (pair : ℕ × ℕ) (k : ℕ) → k < length classes
    → goes_with_pair source_classes pair k ≡ false → class_at (n0_pair e sos source_classes classes pair) k ≡ class_at classes k
unfolding n0_pair with_pair
n0_pair-elsewhere e sos source_classes classes pair k fits other = grind (arith, get_or-map-range_with_len)
