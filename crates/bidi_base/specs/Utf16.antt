-- The characters that code units of UTF-16 mean.
use Rattle.std.specs.Prelude.{◌≡◌, ℕ, ◌+◌, ◌-◌, ◌*◌, ◌≤◌, Bool, ◌&&◌, ◌||◌, nat_le, nat_lt, if◌then◌else◌, List, [], ◌∷◌, ◌++◌, length, take, drop, slice_index}

-- u and v are a high surrogate and a low one
abbrev pub is_pair : ℕ → ℕ → Bool
is_pair u v = (nat_le 0xD800 u && nat_lt u 0xDC00) && (nat_le 0xDC00 v && nat_lt v 0xE000)

-- the character of a pair
abbrev pub pair_char : ℕ → ℕ → ℕ
pair_char u v = 0x10000 + ((u - 0xD800) * 0x400 + (v - 0xDC00))

-- the character of a code unit in no pair: U+FFFD for a surrogate
abbrev pub lone_char : ℕ → ℕ
lone_char u = if nat_lt u 0xD800 || (nat_le 0xE000 u && nat_lt u 0x10000) then u else 0xFFFD

-- a code unit is no surrogate, and so a character
abbrev pub is_character : ℕ → Bool
is_character u = nat_lt u 0xD800 || nat_le 0xE000 u

-- a high surrogate directly followed by a low one is one character
abbrev pub utf16_text : List ℕ → List ℕ
utf16_text [] = []
utf16_text (u ∷ []) = lone_char u ∷ []
utf16_text (u ∷ v ∷ us) = if is_pair u v then pair_char u v ∷ utf16_text us else (lone_char u ∷ utf16_text (v ∷ us))

-- how many code units a character takes
abbrev pub utf16_len : ℕ → ℕ
utf16_len c = if nat_lt c 0x10000 then 1 else 2

-- the index i is between the code units of a pair
abbrev pub splits_pair : List ℕ → ℕ → Bool
splits_pair us i = nat_lt 0 i && is_pair (slice_index us (i - 1)) (slice_index us i)

-- the code units begin with the character c, n code units long
pub record IsFirst (us : List ℕ) (c n : ℕ) : Type 0 where
  pub long : n ≡ utf16_len c
  pub within : n ≤ length us
  pub text : utf16_text us ≡ c ∷ utf16_text (drop n us)

-- the code units end with the character c, n code units long
pub record IsLast (us : List ℕ) (c n : ℕ) : Type 0 where
  pub long : n ≡ utf16_len c
  pub within : n ≤ length us
  pub text : utf16_text us ≡ utf16_text (take (length us - n) us) ++ c ∷ []
