-- Lines that are shown unchanged.
use Rattle.std.specs.Prelude.{◌≡◌, ℕ, ◌-◌, ◌<◌, ◌≤◌, ◌==◌, ◌&&◌, ◌||◌, nat_le, Bool, true, List, length, slice_index, None, unwrap_or}
use Rattle.bidi_terminal.specs.Bases.{level_of_base}
use Rattle.bidi_shown.specs.declared.view.View.{View}

-- a printable character of ASCII
abbrev pub is_printable_ascii : ℕ → Bool
is_printable_ascii byte = nat_le 0x20 byte && nat_le byte 0x7E

-- the same, or the line feed that ends a line
abbrev pub is_printable_or_feed : ℕ → Bool
is_printable_or_feed byte = is_printable_ascii byte || byte == 0x0A

-- the first `len` bytes of a text are whole lines of printable ASCII, each ended by a line feed
pub record ArePrintableLines (text : List ℕ) (len : ℕ) : Type 0 where
  pub within : len ≤ length text
  pub printable : (k : ℕ) → k < len → is_printable_or_feed (slice_index text k) ≡ true
  pub ended : 0 < len → slice_index text (len - 1) ≡ 0x0A

-- lines are not cut, and those without a strong character go from left to right
pub record CopiesPrintable (view : View) : Type 0 where
  pub uncut : view.width ≡ None
  pub left : unwrap_or (level_of_base view.base) 0 ≡ 0
