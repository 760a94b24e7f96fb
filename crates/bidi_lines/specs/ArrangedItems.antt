-- What holds for the order of a line's items after each step of the pass that arranges them (L2).
use Rattle.std.specs.Prelude.{◌≡◌, ℕ, ◌-◌, ◌%◌, ◌<◌, ◌≤◌, List, length, slice_index}
use Rattle.bidi_base.specs.Order.{least_between}

abbrev pub IsEven : ℕ → Type 0
IsEven n = n % 2 ≡ 0

abbrev pub IsOdd : ℕ → Type 0
IsOdd n = n % 2 ≡ 1

-- item i may be left of item j. L2 reverses each stretch above the level `threshold` once for each level above it. So
-- the minimum level from i to j, less `threshold`, is even if i comes before j in the text, and odd if it comes after
-- j.
pub record StandsLeft (levels : List ℕ) (threshold i j : ℕ) : Type 0 where
  pub up : i < j → IsEven (least_between levels i j - threshold)
  pub down : j < i → IsOdd (least_between levels j i - threshold)

-- the entries of `order` from `from` up to `to` are the items from `from` up to `to`, each two of them as `StandsLeft`
-- says
pub record IsArranged (levels : List ℕ) (threshold from to : ℕ) (order : List ℕ) : Type 0 where
  pub low : (p : ℕ) → from ≤ p → p < to → from ≤ slice_index order p
  pub high : (p : ℕ) → from ≤ p → p < to → slice_index order p < to
  pub pairs : (p q : ℕ) → from ≤ p → p < q → q < to → StandsLeft levels threshold (slice_index order p) (slice_index order q)

-- the entries below an index, or from it on, are unchanged
abbrev pub SameBelow : List ℕ → List ℕ → ℕ → Type 0
SameBelow old new n = (p : ℕ) → p < n → slice_index new p ≡ slice_index old p

abbrev pub SameFrom : List ℕ → List ℕ → ℕ → Type 0
SameFrom old new n = (p : ℕ) → n ≤ p → slice_index new p ≡ slice_index old p

-- each item from `from` up to `to` has at least the level `threshold`
abbrev pub AtLeast : List ℕ → ℕ → ℕ → ℕ → Type 0
AtLeast levels threshold from to = (p : ℕ) → from ≤ p → p < to → threshold ≤ slice_index levels p

-- no item has an odd level
abbrev pub NoneIsOdd : List ℕ → Type 0
NoneIsOdd levels = (k : ℕ) → k < length levels → IsEven (slice_index levels k)
