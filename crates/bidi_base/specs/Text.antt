-- A text is a list of characters, and an encoding gives each character a length in code units.
use Rattle.std.specs.Prelude.{◌≡◌, ℕ, ◌+◌, ◌-◌, ◌<◌, ◌≤◌, Bool, true, ◌&&◌, ◌||◌, ◌==◌, nat_le, nat_lt, if◌then◌else◌, List, [], ◌∷◌, length, take, drop, get_or, map, zip, flat_map, replicate, sum_by, count_by, Option, Some, None, slice_range, IsTrue}
use Rattle.std.specs.Char.{is_ascii}
use Rattle.std.specs.List.{list_all}
use Rattle.std.specs.Iterator.{Count, IsFinite, AlwaysYields}

-- the number of code units of the characters
abbrev pub text_len : (ℕ → ℕ) → List ℕ → ℕ
text_len len_of chars = sum_by len_of chars

-- the index of the k-th character: the number of code units before it
abbrev pub unit_index : (ℕ → ℕ) → List ℕ → ℕ → ℕ
unit_index len_of chars k = sum_by len_of (take k chars)

-- if a character begins at `start`, the next one begins at `next`, or the text ends there
abbrev pub IsNextPlace : (ℕ → ℕ) → List ℕ → ℕ → ℕ → Type 0
IsNextPlace len_of chars start next =
    (k : ℕ) → k < length chars → start ≡ unit_index len_of chars k → next ≡ unit_index len_of chars (k + 1)

-- each character with its index, if the first one begins at `from`
abbrev pub char_indices_from : (ℕ → ℕ) → ℕ → List ℕ → List (ℕ × ℕ)
char_indices_from len_of from [] = []
char_indices_from len_of from (c ∷ cs) = (from, c) ∷ char_indices_from len_of (from + len_of c) cs

abbrev pub char_indices : (ℕ → ℕ) → List ℕ → List (ℕ × ℕ)
char_indices len_of chars = char_indices_from len_of 0 chars

-- the index and the length of each character, if the first one begins at `from`
abbrev pub indices_lengths_from : (ℕ → ℕ) → ℕ → List ℕ → List (ℕ × ℕ)
indices_lengths_from len_of from [] = []
indices_lengths_from len_of from (c ∷ cs) = (from, len_of c) ∷ indices_lengths_from len_of (from + len_of c) cs

abbrev pub indices_lengths : (ℕ → ℕ) → List ℕ → List (ℕ × ℕ)
indices_lengths len_of chars = indices_lengths_from len_of 0 chars

-- the character that begins at index u, with its length; `None` if none begins there
abbrev pub char_at : (ℕ → ℕ) → List ℕ → ℕ → Option (ℕ × ℕ)
char_at len_of [] u = None
char_at len_of (c ∷ cs) u =
    if u == 0 then Some (c, len_of c) else (if nat_lt u (len_of c) then None else char_at len_of cs (u - len_of c))

abbrev pub ascii_of : Option (ℕ × ℕ) → Option ℕ
ascii_of None = None
ascii_of (Some p) = if is_ascii p.0 && p.1 == 1 then Some p.0 else None

-- the ASCII character that begins at index u, if it is one code unit long; `None` if no such character begins there
abbrev pub ascii_at : (ℕ → ℕ) → List ℕ → ℕ → Option ℕ
ascii_at len_of chars u = ascii_of (char_at len_of chars u)

-- a character begins at index u, or u is the text's length
abbrev pub is_boundary : (ℕ → ℕ) → List ℕ → ℕ → Bool
is_boundary len_of [] u = u == 0
is_boundary len_of (c ∷ cs) u = u == 0 || (nat_le (len_of c) u && is_boundary len_of cs (u - len_of c))

-- a range of code units that is in the text and cuts no character
pub record IsLine (len_of : ℕ → ℕ) (chars : List ℕ) (start end : ℕ) : Type 0 where
  pub ordered : start ≤ end
  pub begins : IsTrue (is_boundary len_of chars start)
  pub ends : IsTrue (is_boundary len_of chars end)

-- the character index at a boundary: the number of characters before it
abbrev pub char_index : (ℕ → ℕ) → List ℕ → ℕ → ℕ
char_index len_of chars u = count_by (λ e. nat_lt e.0 u) (char_indices len_of chars)

-- the characters of a range of code units
abbrev pub subrange : (ℕ → ℕ) → List ℕ → ℕ → ℕ → List ℕ
subrange len_of chars start end = slice_range chars (char_index len_of chars start) (char_index len_of chars end)

-- one value for each code unit, from one for each character
abbrev pub per_unit : {X : Type 0} → (ℕ → ℕ) → List ℕ → List X → List X
per_unit len_of chars values = flat_map (λ e. replicate (len_of e.0) e.1) (zip chars values)

-- one value for each character, from one for each code unit: that of the character's first code unit
abbrev pub per_char : {X : Type 0} → X → (ℕ → ℕ) → List ℕ → List X → List X
per_char d len_of chars units = map (λ e. get_or units e.0 d) (char_indices len_of chars)

-- all entries equal the first, by the test `eq`
abbrev pub all_same : {X : Type 0} → (X → X → Bool) → List X → Bool
all_same eq [] = true
all_same eq (x ∷ xs) = list_all (λ y. eq y x) (x ∷ xs)

-- one entry for each code unit, equal within each character by the test `eq`
abbrev pub is_per_char : {X : Type 0} → (X → X → Bool) → (ℕ → ℕ) → List ℕ → List X → Bool
is_per_char eq len_of [] units = length units == 0
is_per_char eq len_of (c ∷ cs) units =
    nat_le (len_of c) (length units) && (all_same eq (take (len_of c) units) && is_per_char eq len_of cs (drop (len_of c) units))

-- one entry for each code unit, equal within each character: each character has one value
abbrev pub IsPerChar : {X : Type 0} → (ℕ → ℕ) → List ℕ → List X → Type 0
IsPerChar {X} len_of chars units = (values : List X) × (length values ≡ length chars) × (units ≡ per_unit len_of chars values)

-- the iterator s gives the items xs in order, each once, and then ends
pub record Gives {S A : Type 0} (can : S → Type 0) (steps : S → Option A → S → Type 0) (left : S → Count) (s : S)
    (xs : List A) : Type 0 where
  pub can_next : can s
  pub finite : IsFinite (left s)
  pub items : AlwaysYields steps (λ x. x) s xs

-- the length of a character in a list of characters
abbrev pub one_unit : ℕ → ℕ
one_unit c = 1
