-- Where the pass of L1 over a line stops.
use Rattle.std.specs.Prelude.{ℕ, ◌-◌, ◌==◌, Bool, not, ◌&&◌, ◌||◌, List, slice_index}
use Rattle.bidi_base.specs.declared.char_data.BidiClass.{BidiClass}
use Rattle.bidi_base.specs.Classes.{is_removed, is_separator}
use Rattle.bidi_base.specs.Indexes.{class_at}

-- a separator, or a class that X9 removes
abbrev pub is_stop : BidiClass → Bool
is_stop c = is_separator c || is_removed c

-- a code unit of class `c` and level `own`, after one of level `before`, is a separator; or X9 removes it, and the two
-- levels differ
abbrev pub is_break : BidiClass → ℕ → ℕ → Bool
is_break c before own = is_separator c || (is_removed c && not (before == own))

-- the same for the code unit at an index above 0
abbrev pub is_break_at : List BidiClass → List ℕ → ℕ → Bool
is_break_at classes levels k = is_break (class_at classes k) (slice_index levels (k - 1)) (slice_index levels k)
