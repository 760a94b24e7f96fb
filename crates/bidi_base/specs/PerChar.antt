-- Lists with one entry for each code unit of a text, and equal entries within each character.
use Rattle.std.specs.Prelude.{ℕ, List, IsTrue}
use Rattle.bidi_base.specs.contracts.char_data.BidiClassPartialEq.TheImpl.{ghosts as class_test}
use Rattle.bidi_base.specs.contracts.level.LevelPartialEq.TheImpl.{ghosts as level_test}
use Rattle.bidi_base.specs.declared.char_data.BidiClass.{BidiClass}
use Rattle.bidi_base.specs.Text.{is_per_char}

-- a class for each code unit, equal within each character
abbrev pub HaveClass : (ℕ → ℕ) → List ℕ → List BidiClass → Type 0
HaveClass len_of chars classes = IsTrue (is_per_char class_test.eq len_of chars classes)

-- a level for each code unit, equal within each character
abbrev pub HaveLevel : (ℕ → ℕ) → List ℕ → List ℕ → Type 0
HaveLevel len_of chars units = IsTrue (is_per_char level_test.eq len_of chars units)
