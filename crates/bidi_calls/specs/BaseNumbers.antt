-- The numbers of base levels.
use Rattle.std.specs.Prelude.{ℕ, Bool, ◌==◌, ◌||◌, nat_le, if◌then◌else◌}
use Rattle.unicode_bidi.specs.declared.base.Base.{Base}
use Rattle.unicode_bidi.specs.declared.base.Base.TheVariants.{Level, Auto, AutoOr}

-- the number is that of a base level, or one of the three with which the characters of a paragraph decide
abbrev pub is_base : ℕ → Bool
is_base n = nat_le n 125 || (n == 253 || (n == 254 || n == 255))

-- what such a number says. With 254 and 255 a paragraph in which no character decides has level 0 (P3), with 253 level 1.
abbrev pub base_of : ℕ → Base
base_of n = if n == 255 || n == 254 then Auto else if n == 253 then AutoOr 1 else Level n
