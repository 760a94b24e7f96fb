-- The direction controls and marks by their code points, and in UTF-8.
use Rattle.std.specs.Prelude.{ℕ, Bool, false, ◌==◌, ◌&&◌, ◌||◌, nat_le, List, [], ◌∷◌, slice_index}

-- a number from the first to the last
abbrev pub is_from_to : ℕ → ℕ → ℕ → Bool
is_from_to first last n = nat_le first n && nat_le n last

-- U+061C, U+200E, U+200F, U+202A to U+202E, or U+2066 to U+2069
abbrev pub is_control_char : ℕ → Bool
is_control_char c = c == 0x061C || is_from_to 0x200E 0x200F c || is_from_to 0x202A 0x202E c || is_from_to 0x2066 0x2069 c

-- the second and the third byte of one whose first byte is 0xE2
abbrev pub is_control_tail : ℕ → ℕ → Bool
is_control_tail second third =
    second == 0x80 && (is_from_to 0x8E 0x8F third || is_from_to 0xAA 0xAE third) || second == 0x81 && is_from_to 0xA6 0xA9 third

-- these three bytes begin with one of them
abbrev pub is_control_begun : ℕ → ℕ → ℕ → Bool
is_control_begun first second third =
    first == 0xD8 && second == 0x9C || first == 0xE2 && is_control_tail second third

-- the bytes begin with the UTF-8 of a direction control or mark
abbrev pub begins_with_control : List ℕ → Bool
begins_with_control bytes = is_control_begun (slice_index bytes 0) (slice_index bytes 1) (slice_index bytes 2)

-- the bytes hold the UTF-8 of a direction control or mark
unfoldable pub holds_control : List ℕ → Bool
holds_control [] = false
holds_control (b ∷ bytes) = begins_with_control (b ∷ bytes) || holds_control bytes
