-- A text as contracts see it: one value, whose type says how long its characters are in code units.
use Rattle.std.specs.Prelude.{ℕ, ◌≤◌, Bool, List, Option}
use Rattle.std.specs.Char.{len_utf8}
use Rattle.std.proofs.Common.{arith}
use Rattle.std.proofs.lemmas.Bool.Decides.{nat_tests}
use Rattle.std.proofs.lemmas.Str.{len_utf8_bounds}
use Rattle.bidi_base.specs.declared.char_data.BidiClass.{BidiClass}
use Rattle.bidi_base.specs.InPlace as passes
use Rattle.bidi_base.specs.PerChar as entries
use Rattle.bidi_base.specs.Source.{Source}
use Rattle.bidi_base.specs.Text as list
use Rattle.bidi_base.specs.Text.{one_unit}
use Rattle.bidi_base.specs.Units as units
use Rattle.bidi_base.specs.Utf16.{utf16_len}

-- how many code units each character has: at least one
pub record Encoding : Type 0 where
  pub len_of : ℕ → ℕ
  pub positive : (c : ℕ) → 1 ≤ len_of c

pub one_unit-positive : (c : ℕ) → 1 ≤ one_unit c
one_unit-positive c = omega arith

-- each character is one code unit
abbrev pub one_each : Encoding
one_each = record { len_of = one_unit; positive = one_unit-positive }

pub len_utf8-positive : (c : ℕ) → 1 ≤ len_utf8 c
len_utf8-positive c = (len_utf8_bounds c).0

abbrev pub utf8 : Encoding
utf8 = record { len_of = len_utf8; positive = len_utf8-positive }

pub utf16_len-positive : (c : ℕ) → 1 ≤ utf16_len c
utf16_len-positive c = grind (arith, nat_tests)

abbrev pub utf16 : Encoding
utf16 = record { len_of = utf16_len; positive = utf16_len-positive }

-- a list of characters in an encoding
pub record Text (e : Encoding) : Type 0 where
  pub chars : List ℕ

module _ {e : Encoding} (text : Text e) where
  -- the number of code units of the text
  abbrev pub text_len : ℕ
  text_len = list.text_len e.len_of text.chars

  -- the index of the k-th character: the number of code units before it
  abbrev pub unit_index : ℕ → ℕ
  unit_index k = list.unit_index e.len_of text.chars k

  -- if a character begins at `start`, the next one begins at `next`, or the text ends there
  abbrev pub IsNextPlace : ℕ → ℕ → Type 0
  IsNextPlace start next = list.IsNextPlace e.len_of text.chars start next

  -- each character with its index
  abbrev pub char_indices : List (ℕ × ℕ)
  char_indices = list.char_indices e.len_of text.chars

  -- the index and the length of each character
  abbrev pub indices_lengths : List (ℕ × ℕ)
  indices_lengths = list.indices_lengths e.len_of text.chars

  -- the character that begins at index u, with its length; `None` if none begins there
  abbrev pub char_at : ℕ → Option (ℕ × ℕ)
  char_at u = list.char_at e.len_of text.chars u

  -- the ASCII character that begins at index u, if it is one code unit long; `None` if no such character begins there
  abbrev pub ascii_at : ℕ → Option ℕ
  ascii_at u = list.ascii_at e.len_of text.chars u

  -- a character begins at index u, or u is the text's length
  abbrev pub is_boundary : ℕ → Bool
  is_boundary u = list.is_boundary e.len_of text.chars u

  -- a range of code units that is in the text and cuts no character
  abbrev pub IsLine : ℕ → ℕ → Type 0
  IsLine start end = list.IsLine e.len_of text.chars start end

  -- each range is in the text and cuts no character
  abbrev pub AreLines : List (ℕ × ℕ) → Type 0
  AreLines runs = units.AreLines e.len_of text.chars runs

  -- the character index at a boundary: the number of characters before it
  abbrev pub char_index : ℕ → ℕ
  char_index u = list.char_index e.len_of text.chars u

  -- the text of a range of code units
  abbrev pub subrange : ℕ → ℕ → Text e
  subrange start end = record { chars = list.subrange e.len_of text.chars start end }

  -- one value for each code unit, from one for each character
  abbrev pub per_unit : {X : Type 0} → List X → List X
  per_unit values = list.per_unit e.len_of text.chars values

  -- one entry for each code unit, equal within each character
  abbrev pub IsPerChar : {X : Type 0} → List X → Type 0
  IsPerChar units = list.IsPerChar e.len_of text.chars units

  -- a class for each code unit, equal within each character
  abbrev pub HaveClass : List BidiClass → Type 0
  HaveClass classes = entries.HaveClass e.len_of text.chars classes

  -- a level for each code unit, equal within each character
  abbrev pub HaveLevel : List ℕ → Type 0
  HaveLevel units = entries.HaveLevel e.len_of text.chars units

  -- the level runs of a paragraph, as ranges of code units that cover it
  abbrev pub level_run_ranges : List BidiClass → List ℕ → List (ℕ × ℕ)
  level_run_ranges classes levels = units.level_run_ranges e.len_of text.chars classes levels

  -- the character indexes in some ranges of code units, without those that X9 removes
  abbrev pub kept_in_runs : List BidiClass → List (ℕ × ℕ) → List ℕ
  kept_in_runs classes runs = units.kept_in_runs e.len_of text.chars classes runs

  -- the character indexes in some ranges of code units
  abbrev pub chars_in_runs : List (ℕ × ℕ) → List ℕ
  chars_in_runs runs = units.chars_in_runs e.len_of text.chars runs

  -- those of them that the passes in place treat as kept; `classes` has one for each code unit
  abbrev pub kept_in_place : List BidiClass → List (ℕ × ℕ) → List ℕ
  kept_in_place classes runs = units.kept_in_place e.len_of text.chars classes runs

  abbrev pub CanFindExplicitLevels : ℕ → List BidiClass → List ℕ → List BidiClass → List (ℕ × ℕ) → Type 0
  CanFindExplicitLevels para_level original_classes level_units class_units found =
      passes.CanFindExplicitLevels e.len_of text.chars para_level original_classes level_units class_units found

  abbrev pub AreExplicitLevels : ℕ → List BidiClass → List ℕ → List BidiClass → List (ℕ × ℕ) → Type 0
  AreExplicitLevels para_level original_classes level_units class_units found =
      passes.AreExplicitLevels e.len_of text.chars para_level original_classes level_units class_units found

  abbrev pub CanResolveWeakTypes : List (ℕ × ℕ) → List BidiClass → Type 0
  CanResolveWeakTypes runs old = passes.CanResolveWeakTypes e.len_of text.chars runs old

  abbrev pub AreWeakTypesResolved : List (ℕ × ℕ) → BidiClass → List BidiClass → List BidiClass → Type 0
  AreWeakTypesResolved runs sos old new = passes.AreWeakTypesResolved e.len_of text.chars runs sos old new

  abbrev pub CanResolveNeutrals : List (ℕ × ℕ) → List ℕ → List BidiClass → List BidiClass → Type 0
  CanResolveNeutrals runs level_units original_classes old =
      passes.CanResolveNeutrals e.len_of text.chars runs level_units original_classes old

  abbrev pub AreNeutralsResolved : Source → List (ℕ × ℕ) → BidiClass → BidiClass → List ℕ → List BidiClass → List BidiClass → List BidiClass → Type 0
  AreNeutralsResolved source runs sos eos level_units original_classes old new =
      passes.AreNeutralsResolved e.len_of text.chars source runs sos eos level_units original_classes old new

  abbrev pub AreNeutralsResolvedUpToN1 : Source → List (ℕ × ℕ) → BidiClass → BidiClass → List ℕ → List BidiClass → List BidiClass → List BidiClass → Type 0
  AreNeutralsResolvedUpToN1 source runs sos eos level_units original_classes old new =
      passes.AreNeutralsResolvedUpToN1 e.len_of text.chars source runs sos eos level_units original_classes old new

-- one value for each character, from one for each code unit: that of the character's first code unit
abbrev pub per_char : {X : Type 0} {e : Encoding} → X → Text e → List X → List X
per_char {e = e} d text units = list.per_char d e.len_of text.chars units

-- one entry for each code unit, equal within each character by the test `eq`
abbrev pub is_per_char : {X : Type 0} {e : Encoding} → (X → X → Bool) → Text e → List X → Bool
is_per_char {e = e} eq text units = list.is_per_char eq e.len_of text.chars units
