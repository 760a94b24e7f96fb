-- What the pass counts up to an index: characters, or code units.
use Rattle.bidi_base.proofs.Common.{◌≡◌, ℕ, ◌+◌, ◌<◌, ◌≤◌, true, refl, arith}
use Rattle.bidi_base.specs.Texts.{Encoding, Text, char_index, is_boundary}
use Rattle.bidi_explicit.proofs.CharEnds.{index-lt, index-zero}
use Rattle.bidi_explicit.specs.StepUnit.{count_to, least_of}
use Rattle.bidi_explicit.specs.declared.explicit.StepUnit.{StepUnit}
use Rattle.bidi_explicit.specs.declared.explicit.StepUnit.TheVariants.{Character, CodeUnit}

module _ {encoding : Encoding} (text : Text encoding) where
  pub count-zero : (step_unit : StepUnit) → count_to step_unit text 0 ≡ 0
  count-zero CodeUnit = refl
  count-zero Character = index-zero text

  -- boundaries in order have counts in order
  pub count-lt : (step_unit : StepUnit) (u v : ℕ) → is_boundary text u ≡ true → is_boundary text v ≡ true → u < v → count_to step_unit text u < count_to step_unit text v
  count-lt CodeUnit u v first last order = order
  count-lt Character u v first last order = index-lt text u v first last order

  -- one character more
  pub count-one : (step_unit : StepUnit) (u v : ℕ) → u < v → char_index text v ≡ char_index text u + 1 → count_to step_unit text u + 1 ≤ count_to step_unit text v
  count-one CodeUnit u v some one = omega arith
  count-one Character u v some one = omega arith

-- characters by which steps are bounded from below
pub least-zero : (step_unit : StepUnit) (n : ℕ) → n ≡ 0 → least_of step_unit n ≡ 0
least-zero CodeUnit n none = refl
least-zero Character n none = none

pub least-one : (step_unit : StepUnit) (n m : ℕ) → m ≡ n + 1 → least_of step_unit m ≤ least_of step_unit n + 1
least-one CodeUnit n m one = omega arith
least-one Character n m one = omega arith
