-- The levels of the whole text, those of one of its lines after L1.
use Rattle.bidi_base.proofs.Common.{◌≡◌, ℕ, ◌-◌, ◌≤◌, List, ◌++◌, length, take, drop, arith, append_assoc, length-append, length-drop, common_steps, slice_range, drop-drop, line_levels}
use Rattle.bidi_base.proofs.Common.{levels_with_line, length-take-le}
use Rattle.bidi_base.specs.declared.char_data.BidiClass.{BidiClass}
use Rattle.bidi_lines.proofs.LineLevels.{length-line_levels}

-- ---- parts of lists

pub length-part : {X : Type 0} (xs : List X) (a b : ℕ) → b ≤ length xs → length (slice_range xs a b) ≡ b - a
length-part xs a b fits = length-take-le (b - a) (drop a xs) (omega (arith, length-drop a xs))

-- a part written anew
pub levels_with_line-written : (level : ℕ) (classes : List BidiClass) (levels new : List ℕ) (start end : ℕ) → start ≤ end
    → new ≡ line_levels level (slice_range classes start end) (slice_range levels start end)
    → take start levels ++ (new ++ drop (end - start) (drop start levels)) ≡ levels_with_line level classes levels start end
unfolding levels_with_line
levels_with_line-written level classes levels new start end order e = grind (arith, drop-drop, append_assoc)

-- ---- the levels of the whole text

module _ (level : ℕ) (classes : List BidiClass) (levels : List ℕ) (start end : ℕ) (same : length levels ≡ length classes) (order : start ≤ end) (within : end ≤ length levels) where
  pub length-line : length (line_levels level (slice_range classes start end) (slice_range levels start end)) ≡ end - start
  length-line = grind (arith, length-line_levels, length-part)

  -- the line between what is before it and after it
  cut : levels_with_line level classes levels start end ≡ take start levels ++ (line_levels level (slice_range classes start end) (slice_range levels start end) ++ drop end levels)
  unfolding levels_with_line
  cut = grind (arith, append_assoc)

  pub length-levels_with_line : length (levels_with_line level classes levels start end) ≡ length levels
  length-levels_with_line = grind (arith, cut, length-append, length-line, length-take-le, length-drop)

  -- the line's part of them
  pub slice_range-levels_with_line : slice_range (levels_with_line level classes levels start end) start end ≡ line_levels level (slice_range classes start end) (slice_range levels start end)
  slice_range-levels_with_line = grind (arith, common_steps, cut, length-line)
