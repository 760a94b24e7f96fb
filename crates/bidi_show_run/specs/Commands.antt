-- What arguments ask for.
use Rattle.std.specs.Prelude.{ℕ, Bool, true, false, if◌then◌else◌, List, [], ◌∷◌, Option, Some, None, codes}
use Rattle.std.specs.Option.{option_map, option_and_then}
use Rattle.std.specs.Str.{bytes_eq}
use Rattle.bidi_terminal.specs.Bases.{base_named}
use Rattle.bidi_terminal.specs.Numbers.{number_of}
use Rattle.bidi_terminal.specs.declared.base.Base.{Base}
use Rattle.bidi_show_run.specs.Numbers.{levels_of}
use Rattle.bidi_show_run.specs.declared.command.Command.{Command}
use Rattle.bidi_show_run.specs.declared.command.Command.TheVariants.{Map, Show}
use Rattle.bidi_show_run.specs.declared.command.View.TheVariants.{Whole, Lines}

-- the base level that a single argument names
abbrev pub base_of : List (List ℕ) → Option Base
base_of (word ∷ []) = base_named word
base_of _ = None

-- `lines` with a base level and a limit
abbrev pub lines_named : List (List ℕ) → Option Command
lines_named (base ∷ limit ∷ []) = option_and_then (λ b. option_map (λ n. Show b (Lines n)) (number_of limit)) (base_named base)
lines_named _ = None

-- the command of some arguments, if they are one: `map` and any number of levels, `show` and a base level, or `lines`,
-- a base level and a limit
abbrev pub command_of : List (List ℕ) → Option Command
command_of [] = None
command_of (form ∷ words) =
    if bytes_eq form (codes "map") then option_map Map (levels_of words)
    else if bytes_eq form (codes "show") then option_map (λ b. Show b Whole) (base_of words)
    else if bytes_eq form (codes "lines") then lines_named words
    else None

-- the command reads the input
abbrev pub reads_input : Option Command → Bool
reads_input (Some (Show base view)) = true
reads_input _ = false
