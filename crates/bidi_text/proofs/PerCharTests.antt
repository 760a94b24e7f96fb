-- The test `is_per_char` at classes and at levels, whose `==` tells each two apart.
use Rattle.bidi_base.proofs.Common.{ℕ, Bool, arith}
use Rattle.bidi_base.specs.declared.char_data.BidiClass.{BidiClass}
use Rattle.bidi_base.specs.contracts.char_data.BidiClassPartialEq.TheImpl.{ghosts}
use Rattle.bidi_base.specs.contracts.level.LevelPartialEq.TheImpl.{ghosts as level_ghosts}
use Rattle.bidi_base.proofs.UnitsLemmas.{IsSameTest}

-- `==` of classes
abbrev pub class_eq : BidiClass → BidiClass → Bool
class_eq = ghosts.eq

pub class_test : IsSameTest class_eq
class_test = grind arith

-- `==` of levels
abbrev pub level_eq : ℕ → ℕ → Bool
level_eq = level_ghosts.eq

pub level_test : IsSameTest level_eq
level_test = grind arith
