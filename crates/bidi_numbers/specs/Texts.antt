-- Texts as callers pass them: bytes, code units and numbers of characters.
use Rattle.std.specs.Prelude.{ℕ, Bool, ◌&&◌, ◌||◌, nat_lt, nat_le, List, length, get_or}

-- the number is a scalar value
abbrev pub is_scalar : ℕ → Bool
is_scalar n = nat_lt n 0xD800 || (nat_le 0xE000 n && nat_le n 0x10FFFF)

-- the byte at an index continues a character of UTF-8
abbrev pub goes_on : List ℕ → ℕ → Bool
goes_on bytes i = nat_lt i (length bytes) && (nat_le 0x80 (get_or bytes i 0) && nat_lt (get_or bytes i 0) 0xC0)
