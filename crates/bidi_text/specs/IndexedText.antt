-- A text that is read by index.
use Rattle.std.specs.Prelude.{◌≡◌, ℕ, ◌+◌, ◌<◌, ◌^◌, List, drop, Option, Some, None, MatchOption, IsTrue}
use Rattle.bidi_base.specs.Texts.{Encoding, Text, text_len, char_index, char_at, is_boundary}

-- a text can be read on at index u: a character begins there, or the text ends; and the text's length is a `usize`
pub record CanReadOn {e : Encoding} (text : Text e) (u : ℕ) : Type 0 where
  pub begins : IsTrue (is_boundary text u)
  pub fits : text_len text < 2 ^ 64

-- what was read at index u: its index, the character and its length, or `None` at the text's end; t is the next index
abbrev pub IsReadAt : {e : Encoding} → Text e → ℕ → Option (ℕ × ℕ × ℕ) → ℕ → Type 0
IsReadAt text u r t = MatchOption r ((None ≡ char_at text u) × (t ≡ u))
    (λ found. (found.0 ≡ u) × (Some (found.1, found.2) ≡ char_at text u) × (t ≡ u + found.2))

-- the characters of a text from index u on
abbrev pub chars_from : {e : Encoding} → Text e → ℕ → List ℕ
chars_from text u = drop (char_index text u) text.chars
