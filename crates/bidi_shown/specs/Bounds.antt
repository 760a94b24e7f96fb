-- Ranges of bytes that cut no character.
use Rattle.std.specs.Prelude.{ℕ, ◌≤◌, List}
use Rattle.std.specs.Str.{IsCharBoundary}
use Rattle.std.specs.declared.ops.Range.{Range}

-- a range of bytes of a text that cuts no character
pub record IsRangeOf (text : List ℕ) (r : Range ℕ) : Type 0 where
  pub start : IsCharBoundary text r.start
  pub end : IsCharBoundary text r.end
  pub ordered : r.start ≤ r.end
