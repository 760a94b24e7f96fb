-- Sequences with levels that are known without W1 to N2.
use Rattle.std.specs.Prelude.{◌≡◌, ◌⊎◌, ℕ, ◌≤◌, Bool, true, false, not, ◌||◌, if◌then◌else◌, List, All, length, map, get_or}
use Rattle.bidi_base.specs.declared.char_data.BidiClass.{BidiClass}
use Rattle.bidi_base.specs.declared.char_data.BidiClass.TheVariants.{L, R, AL, EN, AN}
use Rattle.bidi_base.specs.Classes.{is_en, is_kept_in_place, is_l, is_l_or_r, is_nsm, same_class}
use Rattle.bidi_base.specs.Levels.{direction_of}
use Rattle.bidi_base.specs.Indexes.{class_at}
use Rattle.bidi_base.specs.Sequences.{level_at}
use Rattle.bidi_base.specs.Units.{bounds, in_runs}
use Rattle.bidi_base.specs.Updated.{IsUpdated}
use Rattle.bidi_explicit.specs.RunSequence.{borrowed_runs, borrowed_sos, borrowed_eos}
use Rattle.bidi_explicit.specs.declared.prepare.borrowed.BorrowedSequence.{BorrowedSequence}

-- a class that can raise the level of a character in a sequence of the direction d: a number, or a strong class of the
-- other direction
unfoldable pub raises : BidiClass → BidiClass → Bool
raises d c = same_class EN c || same_class AN c || (if is_l d then same_class R c || same_class AL c else same_class L c)

-- a class of a sequence without neutrals: L, R or BN
unfoldable pub is_l_r_or_bn : BidiClass → Bool
is_l_r_or_bn c = is_l_or_r c || not (is_kept_in_place c)

-- the classes that W1 to W7 never make L or a neutral
abbrev pub is_r_al_or_an : BidiClass → Bool
is_r_al_or_an c = same_class R c || same_class AL c || same_class AN c

-- what W7 makes of a class after L: European numbers become L
abbrev pub number_as_l : BidiClass → BidiClass
number_as_l c = if is_en c then L else c

-- the runs of a sequence are inside a list
abbrev pub AreInside : {X : Type 0} → BorrowedSequence → List X → Type 0
AreInside s units = All (λ r. r.1 ≤ length units) (map bounds (borrowed_runs s))

-- the first code unit of a sequence
abbrev pub first_unit : BorrowedSequence → ℕ
first_unit s = (get_or (map bounds (borrowed_runs s)) 0 (0, 0)).0

-- the direction of the level of the first code unit
abbrev pub own_direction : BorrowedSequence → List ℕ → BidiClass
own_direction s levels = direction_of (level_at levels (first_unit s))

-- the sequence begins with a character that X9 keeps, and no class raises a level; the direction of its level is sos,
-- or it is eos and the first character is no mark
pub record HasOneDirection (s : BorrowedSequence) (levels : List ℕ) (classes : List BidiClass) : Type 0 where
  pub kept : is_kept_in_place (class_at classes (first_unit s)) ≡ true
  pub along : (u : ℕ) → in_runs (map bounds (borrowed_runs s)) u ≡ true → raises (own_direction s levels) (class_at classes u) ≡ false
  pub sides : (borrowed_sos s ≡ own_direction s levels)
      ⊎ ((borrowed_eos s ≡ own_direction s levels) × (is_nsm (class_at classes (first_unit s)) ≡ false))

-- the direction of the sequence's level and sos are L, X9 keeps its first character, and no class but EN raises a level
pub record HasEuropeanNumbers (s : BorrowedSequence) (levels : List ℕ) (classes : List BidiClass) : Type 0 where
  pub kept : is_kept_in_place (class_at classes (first_unit s)) ≡ true
  pub own : own_direction s levels ≡ L
  pub before : borrowed_sos s ≡ L
  pub along : (u : ℕ) → in_runs (map bounds (borrowed_runs s)) u ≡ true → is_r_al_or_an (class_at classes u) ≡ false

-- L was written over the European numbers of some runs, and nothing else changed
abbrev pub AreNumbersWritten : List (ℕ × ℕ) → List BidiClass → List BidiClass → Type 0
AreNumbersWritten runs old new = IsUpdated L (in_runs runs) number_as_l 0 (length old) old new

-- the characters of the sequence that X9 keeps are L or R
abbrev pub HasNoNeutral : BorrowedSequence → List BidiClass → Type 0
HasNoNeutral s classes = (u : ℕ) → in_runs (map bounds (borrowed_runs s)) u ≡ true → is_l_r_or_bn (class_at classes u) ≡ true
