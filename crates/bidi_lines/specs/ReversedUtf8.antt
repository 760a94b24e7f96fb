-- The bytes of a text of UTF-8 with its characters in reverse order, each with its own bytes in order.
use Rattle.std.specs.Prelude.{ℕ, ◌+◌, ◌&&◌, nat_le, nat_lt, if◌then◌else◌, List, ◌∷◌, slice_index_or}

-- the byte that the reversed text has at the index from its end that `byte` has from the start: `byte` itself, or the
-- first or last byte of its character in exchange for it. `far` and `near` come before `byte`, and `next` and `later`
-- after it.
abbrev pub reversed_byte : ℕ → ℕ → ℕ → ℕ → ℕ → ℕ
reversed_byte far near byte next later =
    if nat_le 0xE0 byte then later
    else if nat_le 0xC0 byte then next
    else if nat_le 0xC0 near && nat_lt near 0xE0 then near
    else if nat_le 0xE0 far then far
    else byte

-- the same for the byte at index j + 2 of a list
abbrev pub reversed_byte_at : List ℕ → ℕ → ℕ
reversed_byte_at bytes j =
    reversed_byte (slice_index_or bytes j 0) (slice_index_or bytes (j + 1) 0) (slice_index_or bytes (j + 2) 0) (slice_index_or bytes (j + 3) 0) (slice_index_or bytes (j + 4) 0)

-- the bytes of a text after two zeros
abbrev pub behind_two : List ℕ → List ℕ
behind_two bytes = 0 ∷ 0 ∷ bytes
