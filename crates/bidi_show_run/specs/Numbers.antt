-- The numbers in arguments.
use Rattle.std.specs.Prelude.{ℕ, nat_le, if◌then◌else◌, List, Option, Some, None, is_some, filter_map}
use Rattle.std.specs.List.{list_all}
use Rattle.std.specs.Option.{option_and_then}
use Rattle.bidi_terminal.specs.Numbers.{number_of}

-- the level in an argument: a number of at most 126
abbrev pub level_of : List ℕ → Option ℕ
level_of word = option_and_then (λ number. if nat_le number 126 then Some number else None) (number_of word)

-- the levels in arguments, if each of them is a level
abbrev pub levels_of : List (List ℕ) → Option (List ℕ)
levels_of words = if list_all (λ word. is_some (level_of word)) words then Some (filter_map level_of words) else None
