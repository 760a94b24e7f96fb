-- The visual order of a line's items (L2), as every call that returns one promises it.
use Rattle.std.specs.Prelude.{◌≡◌, ℕ, false, List}
use Rattle.bidi_base.specs.Levels.{has_rtl}
use Rattle.bidi_base.specs.Order.{visual_order, IsVisualOrder, order_by_reversals}
use Rattle.bidi_base.specs.Indexes.{indexes}

-- for each visual index, the index of the item there. `levels` has the level of each item after L1.
pub record IsLineOrder (levels items : List ℕ) : Type 0 where
  pub order : items ≡ visual_order levels
  -- each index once, and of any two the one that L2 puts further left comes first
  pub visual : IsVisualOrder levels items
  -- if no level is odd, the indexes are in order
  pub still : has_rtl levels ≡ false → items ≡ indexes levels
  -- the list that the reversals of L2 leave
  pub reversals : items ≡ order_by_reversals levels
