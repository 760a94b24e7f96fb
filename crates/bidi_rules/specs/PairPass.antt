-- N0 over the code units of a sequence: what searches find around a bracket, the direction that a pair takes, and what
-- is written.
use Rattle.std.specs.Prelude.{◌≡◌, ◌⊎◌, ◌<◌, ◌≤◌, true, false, ℕ, ◌+◌, nat_lt, Bool, if◌then◌else◌, List, length, map, get_or, drop, take, Option, Some, None, IsTrue}
use Rattle.bidi_base.specs.declared.char_data.BidiClass.{BidiClass}
use Rattle.bidi_base.specs.declared.char_data.BidiClass.TheVariants.{L, R}
use Rattle.bidi_base.specs.Classes.{as_direction, is_kept_in_place, is_nsm, stands_for}
use Rattle.bidi_base.specs.Text.{is_boundary, unit_index, text_len}
use Rattle.bidi_explicit.specs.SequenceUnits.{is_seen, IsWrittenOver}
use Rattle.bidi_base.specs.Indexes.{class_at}
use Rattle.bidi_base.specs.Units.{are_ordered, in_runs, AreLines}
use Rattle.bidi_rules.specs.declared.neutral.pairs.Pair.{Pair}
use Rattle.bidi_rules.specs.declared.neutral.pairs.Place.{Place}
use Rattle.bidi_rules.specs.declared.neutral.pairs.PairPass.{PairPass}
use Rattle.bidi_rules.specs.declared.neutral.pairs.Row.{Row}

-- the first code unit of some ranges from `from` on and below `to` that counts as this direction, or else `to`
pub record IsFirstFor (direction : BidiClass) (runs : List (ℕ × ℕ)) (classes : List BidiClass) (from to u : ℕ) : Type 0 where
  pub within : u ≤ to
  pub before : (k : ℕ) → from ≤ k → k < u → in_runs runs k ≡ true → stands_for direction (class_at classes k) ≡ false
  pub at : u < to → (from ≤ u) × (in_runs runs u ≡ true) × (stands_for direction (class_at classes u) ≡ true)

-- no code unit of the ranges from `from` on and below `to` has a direction
abbrev pub HasNoDirection : List (ℕ × ℕ) → List BidiClass → ℕ → ℕ → Type 0
HasNoDirection runs classes from to = (k : ℕ) → from ≤ k → k < to → in_runs runs k ≡ true → as_direction (class_at classes k) ≡ None

-- the nearest direction at a code unit of the ranges below `to`, or else `before`
abbrev pub IsNearestBefore : BidiClass → List (ℕ × ℕ) → List BidiClass → ℕ → BidiClass → Type 0
IsNearestBefore before runs classes to d =
    ((u : ℕ) × (u < to) × (in_runs runs u ≡ true) × (as_direction (class_at classes u) ≡ Some d)
    × HasNoDirection runs classes (u + 1) to)
    ⊎ ((d ≡ before) × HasNoDirection runs classes 0 to)

-- from `from` up to `end`, the characters in the ranges are nonspacing marks by their stored classes, or BN; then comes
-- a character that is neither, or `end` is the number of code units
pub record IsMarksEnd (len_of : ℕ → ℕ) (chars : List ℕ) (runs : List (ℕ × ℕ)) (original_classes classes : List BidiClass)
    (from end : ℕ) : Type 0 where
  pub marks : (k : ℕ) → from ≤ unit_index len_of chars k → unit_index len_of chars k < end
      → is_seen runs classes (unit_index len_of chars k) ≡ true → is_nsm (class_at original_classes (unit_index len_of chars k)) ≡ true
  pub stops : end < length classes
      → (k : ℕ) × (end ≡ unit_index len_of chars k) × (from ≤ end) × (is_seen runs classes end ≡ true)
      × (is_nsm (class_at original_classes end) ≡ false)
  pub within : end ≤ length classes

-- the index at which the k-th of some characters begins; for each k past the last one, another and greater number
abbrev pub unit_index_at : (ℕ → ℕ) → List ℕ → List ℕ → ℕ → ℕ
unit_index_at len_of chars ks k = if nat_lt k (length ks) then unit_index len_of chars (get_or ks k 0) else text_len len_of chars + k

-- pairs of these characters, by these indexes
abbrev pub at_unit_indexes : (ℕ → ℕ) → List ℕ → List ℕ → List (ℕ × ℕ) → List (ℕ × ℕ)
at_unit_indexes len_of chars ks pairs = map (λ p. (unit_index_at len_of chars ks p.0, unit_index_at len_of chars ks p.1)) pairs

-- the opposite direction
abbrev pub opposite_of : BidiClass → BidiClass
opposite_of L = R
opposite_of _ = L

-- whether a direction is between the brackets of a pair, and the next code unit of this direction that the pass knows
-- after the search
pub record IsSearched (direction : BidiClass) (runs : List (ℕ × ℕ)) (classes : List BidiClass) (pair : Pair)
    (known next : ℕ) (answer : Bool) : Type 0 where
  pub looked : pair.is_marked ≡ true
      → (next ≡ known)
      × ((u : ℕ) × IsFirstFor direction runs classes pair.inside pair.closing u × (answer ≡ nat_lt u pair.closing))
  pub ahead : pair.is_marked ≡ false → answer ≡ nat_lt next pair.closing
  pub kept : pair.is_marked ≡ false → pair.opening < known → next ≡ known
  pub sought : pair.is_marked ≡ false → known ≤ pair.opening → IsFirstFor direction runs classes pair.inside (length classes) next

-- the direction that a pair takes, by such searches (N0 b to d)
pub record IsTaken (before : BidiClass) (runs : List (ℕ × ℕ)) (classes : List BidiClass) (pair : Pair)
    (walk new : PairPass) (taken : Option BidiClass) : Type 0 where
  pub embedding : Bool
  pub opposite : Bool
  pub context : BidiClass
  pub searched : IsSearched walk.embedding.direction runs classes pair walk.embedding.unit new.embedding.unit embedding
  pub searched_opposite : embedding ≡ false
      → IsSearched walk.opposite.direction runs classes pair walk.opposite.unit new.opposite.unit opposite
  pub idle : embedding ≡ true → new.opposite.unit ≡ walk.opposite.unit
  pub nearest : embedding ≡ false → opposite ≡ true → IsNearestBefore before runs classes pair.opening context
  pub is : taken ≡ (if embedding then Some walk.embedding.direction else (if opposite then Some context else None))

-- the index of a run: it and the later runs have all code units of the runs from `unit` on, and it and the earlier runs
-- have all those before `unit`
pub record IsRunOf (runs : List (ℕ × ℕ)) (unit run : ℕ) : Type 0 where
  pub later : (k : ℕ) → unit ≤ k → in_runs (drop run runs) k ≡ in_runs runs k
  pub upto : (k : ℕ) → k < unit → in_runs (take (run + 1) runs) k ≡ in_runs runs k
  pub within : run ≤ length runs

-- where a bracket is: it ends where its character ends
pub record IsPlace (len_of : ℕ → ℕ) (chars : List ℕ) (runs : List (ℕ × ℕ)) (bracket : Place) : Type 0 where
  pub ends : (k : ℕ) → k < length chars → bracket.unit ≡ unit_index len_of chars k → bracket.end ≡ unit_index len_of chars (k + 1)
  pub run : IsRunOf runs bracket.unit bracket.run

-- a bracket and the code unit after it are in the ranges, and that code unit is neither BN nor a mark by its stored
-- class
pub record IsUnmarked (runs : List (ℕ × ℕ)) (original_classes classes : List BidiClass) (bracket : Place) : Type 0 where
  pub seen : (k : ℕ) → bracket.unit ≤ k → k ≤ bracket.end → in_runs runs k ≡ true
  pub kept : is_kept_in_place (class_at classes bracket.end) ≡ true
  pub plain : is_nsm (class_at original_classes bracket.end) ≡ false
  pub inside : bracket.end < length classes

-- a bracket and the marks after it have the direction d: the k-th character comes after the bracket, and the marks end
-- at `end`
abbrev pub IsSetUpTo : (ℕ → ℕ) → List ℕ → List (ℕ × ℕ) → List BidiClass → BidiClass → ℕ → ℕ → ℕ → List BidiClass
    → List BidiClass → Type 0
IsSetUpTo len_of chars runs original_classes d bracket k end old new =
    IsMarksEnd len_of chars runs original_classes old (unit_index len_of chars k) end
    × IsWrittenOver (is_seen runs old) d bracket end old new

-- the same for some end of the marks
abbrev pub IsSet : (ℕ → ℕ) → List ℕ → List (ℕ × ℕ) → List BidiClass → BidiClass → ℕ → ℕ → List BidiClass → List BidiClass → Type 0
IsSet len_of chars runs original_classes d bracket k old new = (end : ℕ) × IsSetUpTo len_of chars runs original_classes d bracket k end old new

-- the row that was written last: all of it has its direction, and it has only marks after its first code unit
pub record IsRow (len_of : ℕ → ℕ) (chars : List ℕ) (runs : List (ℕ × ℕ)) (original_classes classes : List BidiClass) (row : Row) : Type 0 where
  pub written : (u : ℕ) → row.from ≤ u → u < row.end → is_seen runs classes u ≡ true → class_at classes u ≡ row.direction
  pub marks : (k : ℕ) → row.from < unit_index len_of chars k → unit_index len_of chars k < row.end
      → is_seen runs classes (unit_index len_of chars k) ≡ true → is_nsm (class_at original_classes (unit_index len_of chars k)) ≡ true
  pub stops : row.from < row.end → row.end < length classes
      → (k : ℕ) × (row.end ≡ unit_index len_of chars k) × (is_seen runs classes row.end ≡ true)
      × (is_nsm (class_at original_classes row.end) ≡ false)
  pub within : row.end ≤ length classes

-- a bracket is in the text, and the runs and the classes fit the text
pub record IsBracket (len_of : ℕ → ℕ) (chars : List ℕ) (runs : List (ℕ × ℕ)) (original_classes classes : List BidiClass)
    (bracket : Place) : Type 0 where
  pub lines : AreLines len_of chars runs
  pub ordered : IsTrue (are_ordered runs)
  pub long : length classes ≡ text_len len_of chars
  pub stored : length original_classes ≡ length classes
  pub begins : IsTrue (is_boundary len_of chars bracket.unit)
  pub inside : bracket.unit < text_len len_of chars
  pub place : IsPlace len_of chars runs bracket

-- the same, and this row was written last
pub record IsBracketAfter (len_of : ℕ → ℕ) (chars : List ℕ) (runs : List (ℕ × ℕ)) (original_classes classes : List BidiClass)
    (row : Row) (bracket : Place) : Type 0 where
  pub fits : IsBracket len_of chars runs original_classes classes bracket
  pub last : IsRow len_of chars runs original_classes classes row
