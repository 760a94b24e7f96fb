-- Printable ASCII, which a search for controls passes over.
use Rattle.std.specs.Prelude.{ℕ, Bool, ◌==◌, ◌||◌}
use Rattle.std.specs.Char.{is_ascii_graphic}

-- U+0020 to U+007E
abbrev pub is_printable_ascii : ℕ → Bool
is_printable_ascii c = c == 0x20 || is_ascii_graphic c
