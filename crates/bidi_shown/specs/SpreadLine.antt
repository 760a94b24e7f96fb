-- What a spread line shows.
use Rattle.std.specs.Prelude.{ℕ, List}
use Rattle.bidi_shown.specs.declared.tabs.SpreadLine.{SpreadLine}

-- its characters and their levels
abbrev pub chars : SpreadLine → List ℕ
chars line = line.chars.items

abbrev pub levels : SpreadLine → List ℕ
levels line = line.levels.items
