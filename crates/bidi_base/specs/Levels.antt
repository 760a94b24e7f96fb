-- Embedding levels, as numbers.
use Rattle.std.specs.Prelude.{ℕ, ◌+◌, ◌%◌, Bool, ◌==◌, if◌then◌else◌, List}
use Rattle.std.specs.List.{list_any}
use Rattle.bidi_base.specs.declared.char_data.BidiClass.{BidiClass}
use Rattle.bidi_base.specs.declared.char_data.BidiClass.TheVariants.{L, R}

-- the maximum explicit level (BD2)
abbrev pub max_depth : ℕ
max_depth = 125

-- an odd level is right to left, an even one left to right (BD2)
abbrev pub is_odd : ℕ → Bool
is_odd level = level % 2 == 1

abbrev pub is_even : ℕ → Bool
is_even level = level % 2 == 0

-- the lowest odd level above this one, and the lowest even one
abbrev pub next_odd : ℕ → ℕ
next_odd level = if is_odd level then level + 2 else level + 1

abbrev pub next_even : ℕ → ℕ
next_even level = if is_odd level then level + 1 else level + 2

-- the lowest odd level at or above this one
abbrev pub odd_from : ℕ → ℕ
odd_from level = if is_odd level then level else level + 1

-- the direction of a level, as a class: the embedding direction (BD3)
abbrev pub direction_of : ℕ → BidiClass
direction_of level = if is_odd level then R else L

-- some level is odd, that is right to left
abbrev pub has_rtl : List ℕ → Bool
has_rtl levels = list_any is_odd levels
