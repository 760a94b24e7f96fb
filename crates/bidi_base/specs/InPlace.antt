-- What the passes in place require and establish: the explicit pass over the code units of a paragraph, and the weak
-- and neutral passes over those of a sequence.
use Rattle.std.specs.Prelude.{◌≡◌, ℕ, ◌≤◌, false, List, [], length, map, IsTrue, OnErr, OnOk, Result}
use Rattle.std.specs.List.{list_all}
use Rattle.bidi_base.specs.declared.char_data.BidiClass.{BidiClass}
use Rattle.bidi_base.specs.declared.char_data.BidiClass.TheVariants.{L, BN}
use Rattle.bidi_base.specs.Classes.{is_weak_resolved}
use Rattle.bidi_base.specs.Explicit.{explicit_levels, processing_classes}
use Rattle.bidi_base.specs.Levels.{direction_of}
use Rattle.bidi_base.specs.Neutral.{n2_rule, neutral_classes}
use Rattle.bidi_base.specs.PerChar.{HaveClass}
use Rattle.bidi_base.specs.Indexes.{at_indexes, class_at, first_or}
use Rattle.bidi_base.specs.Sequences.{level_at}
use Rattle.bidi_base.specs.Source.{Source}
use Rattle.bidi_base.specs.Text.{per_char, per_unit, unit_index}
use Rattle.bidi_base.specs.Units.{in_runs, kept_in_place, level_run_ranges, AreLines}
use Rattle.bidi_base.specs.Weak.{weak_classes}

-- ---- one paragraph

-- the paragraph level is at most 125, the code units of each character have one stored class, there is a level for each
-- code unit, the classes to rewrite are a copy of the stored ones, and there are no runs yet
pub record CanFindExplicitLevels (len_of : ℕ → ℕ) (chars : List ℕ) (para_level : ℕ) (original_classes : List BidiClass)
    (level_units : List ℕ) (class_units : List BidiClass) (found : List (ℕ × ℕ)) : Type 0 where
  pub explicit : para_level ≤ 125
  pub original : HaveClass len_of chars original_classes
  pub levels : length level_units ≡ length original_classes
  pub processing : class_units ≡ original_classes
  pub runs : found ≡ []

-- the code units have the explicit levels and the processing classes of their characters, and these are the level runs
pub record AreExplicitLevels (len_of : ℕ → ℕ) (chars : List ℕ) (para_level : ℕ) (original_classes : List BidiClass)
    (level_units : List ℕ) (class_units : List BidiClass) (found : List (ℕ × ℕ)) : Type 0 where
  pub levels : let stored = per_char L len_of chars original_classes in
      level_units ≡ per_unit len_of chars (explicit_levels para_level stored)
  pub classes : let stored = per_char L len_of chars original_classes in
      class_units ≡ per_unit len_of chars (processing_classes para_level stored)
  pub runs : let stored = per_char L len_of chars original_classes in
      found ≡ level_run_ranges len_of chars stored (explicit_levels para_level stored)

-- ---- one sequence

-- the classes in `classes` of a sequence's characters that are kept in place; `old` says which of them are
abbrev pub classes_in : (ℕ → ℕ) → List ℕ → List (ℕ × ℕ) → List BidiClass → List BidiClass → List BidiClass
classes_in len_of chars runs old classes = at_indexes L classes (map (unit_index len_of chars) (kept_in_place len_of chars old runs))

-- the runs of the sequence cut no character, and the code units of each character have one class
pub record CanResolveWeakTypes (len_of : ℕ → ℕ) (chars : List ℕ) (runs : List (ℕ × ℕ)) (old : List BidiClass) : Type 0 where
  pub per_char : HaveClass len_of chars old
  pub are_lines : AreLines len_of chars runs

-- what each pass over a sequence keeps: BN stays BN, nothing outside the runs changes, and the code units of each
-- character have one class
pub record IsInPlace (len_of : ℕ → ℕ) (chars : List ℕ) (runs : List (ℕ × ℕ)) (old new : List BidiClass) : Type 0 where
  pub removed : (u : ℕ) → class_at old u ≡ BN → class_at new u ≡ BN
  pub outside : (u : ℕ) → in_runs runs u ≡ false → class_at new u ≡ class_at old u
  pub per_char : HaveClass len_of chars new

-- W1 to W7 are done: the sequence's characters have the classes of the rules
pub record AreWeakTypesResolved (len_of : ℕ → ℕ) (chars : List ℕ) (runs : List (ℕ × ℕ)) (sos : BidiClass)
    (old new : List BidiClass) : Type 0 where
  pub kept : classes_in len_of chars runs old new ≡ weak_classes sos (classes_in len_of chars runs old old)
  pub in_place : IsInPlace len_of chars runs old new

-- what CanResolveWeakTypes requires, a level and a stored class for each code unit, and only classes that there can be
-- after W7
pub record CanResolveNeutrals (len_of : ℕ → ℕ) (chars : List ℕ) (runs : List (ℕ × ℕ)) (level_units : List ℕ)
    (original_classes old : List BidiClass) : Type 0 where
  pub per_char : HaveClass len_of chars old
  pub are_lines : AreLines len_of chars runs
  pub levels : length level_units ≡ length old
  pub original : length original_classes ≡ length old
  pub resolved : IsTrue (list_all is_weak_resolved (classes_in len_of chars runs old old))

-- the classes of the sequence's characters after N0 to N2, with the level at its first kept code unit
abbrev pub neutral_classes_in : (ℕ → ℕ) → List ℕ → Source → List (ℕ × ℕ) → BidiClass → BidiClass → List ℕ → List BidiClass → List BidiClass → List BidiClass
neutral_classes_in len_of chars source runs sos eos levels original_classes old =
    let indexes = kept_in_place len_of chars old runs in
    let places = map (unit_index len_of chars) indexes in
    neutral_classes (level_at levels (first_or 0 places)) sos eos (at_indexes L original_classes places)
    (map source.bracket_of (at_indexes 0 chars indexes)) (at_indexes L old places)

-- the new classes are those after N0 to N2
pub record AreNeutralsResolved (len_of : ℕ → ℕ) (chars : List ℕ) (source : Source) (runs : List (ℕ × ℕ))
    (sos eos : BidiClass) (level_units : List ℕ) (original_classes old new : List BidiClass) : Type 0 where
  pub kept : classes_in len_of chars runs old new
      ≡ neutral_classes_in len_of chars source runs sos eos level_units original_classes old
  pub in_place : IsInPlace len_of chars runs old new

-- the new classes are those after N0 and N1: after N2, which changes no level, they would be those after N0 to N2
pub record AreNeutralsResolvedUpToN1 (len_of : ℕ → ℕ) (chars : List ℕ) (source : Source) (runs : List (ℕ × ℕ))
    (sos eos : BidiClass) (level_units : List ℕ) (original_classes old new : List BidiClass) : Type 0 where
  pub kept : let places = map (unit_index len_of chars) (kept_in_place len_of chars old runs) in
      map (n2_rule (direction_of (level_at level_units (first_or 0 places)))) (at_indexes L new places)
      ≡ neutral_classes_in len_of chars source runs sos eos level_units original_classes old
  pub in_place : IsInPlace len_of chars runs old new

-- a call that succeeds did its work, and a call that returns an error left these classes unchanged
pub record IsDoneOrUnchanged {A E : Type 0} (result : Result A E) (done : Type 0) (old new : List BidiClass) : Type 0 where
  pub resolved : OnOk result done
  pub unchanged : OnErr result (new ≡ old)
