-- The base levels that words name.
use Rattle.std.specs.Prelude.{ℕ, if◌then◌else◌, List, Option, Some, None, codes}
use Rattle.std.specs.Str.{bytes_eq}
use Rattle.bidi_terminal.specs.declared.base.Base.{Base}
use Rattle.bidi_terminal.specs.declared.base.Base.TheVariants.{Auto, Ltr, Rtl}

-- the base level that a word names
abbrev pub base_named : List ℕ → Option Base
base_named word =
    if bytes_eq word (codes "auto") then Some Auto
    else if bytes_eq word (codes "ltr") then Some Ltr
    else if bytes_eq word (codes "rtl") then Some Rtl
    else None

-- the base level, if there is one
abbrev pub level_of_base : Base → Option ℕ
level_of_base Auto = None
level_of_base Ltr = Some 0
level_of_base Rtl = Some 1
