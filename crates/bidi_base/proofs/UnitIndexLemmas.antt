-- Unit indexes: that of the k-th character, ranges between two, and iterations of loops over a text.
use Rattle.bidi_base.proofs.Common.{zero, suc, drop-cons, ◌≡◌, ℕ, ◌+◌, ◌-◌, ◌<◌, ◌≤◌, true, List, [], ◌∷◌, length, take, drop, get_or, Option, Some, None, inl, inr, refl, sym, ◌∙◌, ap, arith}
use Rattle.bidi_base.proofs.Common.{length-take, length-drop, length-append, common_steps, cases_lt, slice_range, Count, Yields, take-append-add, take-append_seam, take-append-drop, drop-drop}
use Rattle.bidi_base.proofs.Common.{take_all, take-take, sum_by-append, sum_by-cons, count_by-le-length, text_len, unit_index, char_indices_from, char_indices, indices_lengths_from, char_at}
use Rattle.bidi_base.proofs.Common.{is_boundary, IsLine, char_index, subrange, one_unit, Gives, get_or-drop, sum_by_more, sum_by_more_le}
use Rattle.std.proofs.lemmas.List.Sums.{sum_by-take-le}
use Rattle.bidi_base.specs.Text.{indices_lengths}
use Rattle.bidi_base.proofs.TextLemmas.{HasUnits, char_at-append, is_boundary-append, char_index-append, cut_at}
use Rattle.bidi_base.proofs.GivesLemmas.{turn_drop, end}

-- ---- places

pub unit_index-zero : (len_of : ℕ → ℕ) (chars : List ℕ) → unit_index len_of chars 0 ≡ 0
unit_index-zero len_of chars = grind arith

module _ (len_of : ℕ → ℕ) (chars : List ℕ) where
  pub unit_index-more : (k c : ℕ) → k < length chars → unit_index len_of chars (k + 1) ≡ unit_index len_of chars k + len_of (get_or chars k c)
  unit_index-more k c within = sum_by_more len_of chars k c within

  pub unit_index-more-le : (k c : ℕ) → k < length chars → unit_index len_of chars k + len_of (get_or chars k c) ≤ text_len len_of chars
  unit_index-more-le k c within = sum_by_more_le len_of chars k c within

  pub unit_index-le : (k : ℕ) → unit_index len_of chars k ≤ text_len len_of chars
  unit_index-le k = sum_by-take-le len_of chars k

  pub unit_index-end : (k : ℕ) → length chars ≤ k → unit_index len_of chars k ≡ text_len len_of chars
  unit_index-end k past = ap (text_len len_of) (take_all k chars past)

  -- the units between two places
  pub unit_index-sum : (i j : ℕ) → i ≤ j → i ≤ length chars → unit_index len_of chars j ≡ unit_index len_of chars i + text_len len_of (slice_range chars i j)
  unit_index-sum i j le short =
      grind (arith, take-append-add (take i chars) (drop i chars) (j - i), take-append-drop, length-take, sum_by-append)

  pub unit_index-mono : (i j : ℕ) → i ≤ j → unit_index len_of chars i ≤ unit_index len_of chars j
  unit_index-mono i j le = grind (arith, unit_index-sum i j le, unit_index-end i, unit_index-end j)

  pub unit_index-lt : HasUnits len_of → (i j : ℕ) → i < j → i < length chars → unit_index len_of chars i < unit_index len_of chars j
  unit_index-lt h i j lt within = omega (arith, unit_index-more i 0 within, h (get_or chars i 0), unit_index-mono (i + 1) j (omega arith))

  -- places in order have indexes in order
  pub unit_index-le-back : HasUnits len_of → (i j : ℕ) → i ≤ length chars → unit_index len_of chars i ≤ unit_index len_of chars j → i ≤ j
  unit_index-le-back h i j short le = grind (arith, unit_index-lt)

  -- ---- boundaries and ranges at places

  pub is_boundary-unit_index : (k : ℕ) → is_boundary len_of chars (unit_index len_of chars k) ≡ true
  is_boundary-unit_index k = grind (arith, take-append-drop, is_boundary-append len_of (take k chars) (drop k chars))

  pub IsLine-unit_indexes : (i j : ℕ) → i ≤ j → IsLine len_of chars (unit_index len_of chars i) (unit_index len_of chars j)
  IsLine-unit_indexes i j le = grind (arith, unit_index-mono, is_boundary-unit_index)

  pub char_index-unit_index : HasUnits len_of → (k : ℕ) → k ≤ length chars → char_index len_of chars (unit_index len_of chars k) ≡ k
  char_index-unit_index h k short = grind (arith, char_index-append len_of h (take k chars) (drop k chars), take-append-drop, length-take)

  pub subrange-unit_indexes : HasUnits len_of → (i j : ℕ) → i ≤ length chars → j ≤ length chars → subrange len_of chars (unit_index len_of chars i) (unit_index len_of chars j) ≡ slice_range chars i j
  subrange-unit_indexes h i j first second = rw (char_index-unit_index h i first, char_index-unit_index h j second)

  pub subrange-front : HasUnits len_of → (j : ℕ) → j ≤ length chars → subrange len_of chars 0 (unit_index len_of chars j) ≡ take j chars
  subrange-front h j short = grind (arith, unit_index-zero, subrange-unit_indexes h 0 j)

-- ---- the index of a boundary

pub length-char_indices_from : (len_of : ℕ → ℕ) (from : ℕ) (chars : List ℕ) → length (char_indices_from len_of from chars) ≡ length chars
length-char_indices_from len_of from [] = refl
length-char_indices_from len_of from (c ∷ cs) = ap suc (length-char_indices_from len_of (from + len_of c) cs)

pub length-indices_lengths_from : (len_of : ℕ → ℕ) (from : ℕ) (chars : List ℕ) → length (indices_lengths_from len_of from chars) ≡ length chars
length-indices_lengths_from len_of from [] = refl
length-indices_lengths_from len_of from (c ∷ cs) = ap suc (length-indices_lengths_from len_of (from + len_of c) cs)

pub char_index-le : (len_of : ℕ → ℕ) (chars : List ℕ) (u : ℕ) → char_index len_of chars u ≤ length chars
char_index-le len_of chars u = grind (arith, count_by-le-length, length-char_indices_from)

-- a line begins at the place of the character at index i, and ends at that of the one at j
pub record IsLineAt (len_of : ℕ → ℕ) (chars : List ℕ) (start end i j : ℕ) : Type 0 where
  pub begins : start ≡ unit_index len_of chars i
  pub ends : end ≡ unit_index len_of chars j
  pub ordered : i ≤ j
  pub within : j ≤ length chars

module _ (len_of : ℕ → ℕ) (h : HasUnits len_of) (chars : List ℕ) where
  pub unit_index-char_index : (u : ℕ) → is_boundary len_of chars u ≡ true → unit_index len_of chars (char_index len_of chars u) ≡ u
  unit_index-char_index u e =
      let w = cut_at len_of chars u e in
      grind (arith, w.joined, w.long, take-append_seam w.front w.back, length-append w.front w.back, char_index-unit_index len_of chars h (length w.front))

  pub line_unit_indexes : (start end : ℕ) → IsLine len_of chars start end → IsLineAt len_of chars start end (char_index len_of chars start) (char_index len_of chars end)
  line_unit_indexes start end line = grind (
    arith,
    common_steps,
    unit_index-char_index start line.begins,
    unit_index-char_index end line.ends,
    unit_index-le-back,
    line.ordered,
    char_index-le len_of chars end,
  )

  -- a line is as long as its range
  pub text_len-subrange : (start end : ℕ) → IsLine len_of chars start end → text_len len_of (subrange len_of chars start end) ≡ end - start
  text_len-subrange start end line = grind (arith, line_unit_indexes, unit_index-sum)

-- ---- places in a line of the text

-- the k-th character of a slice of the characters
pub unit_index-slice_range : (len_of : ℕ → ℕ) (chars : List ℕ) (i j k : ℕ) → i + k ≤ j → j ≤ length chars → unit_index len_of chars (i + k) ≡ unit_index len_of chars i + unit_index len_of (slice_range chars i j) k
unit_index-slice_range len_of chars i j k inside within = grind (arith, take-take, unit_index-sum len_of chars i (i + k))

-- ---- the character that begins at a place

pub char_at-unit_index : (len_of : ℕ → ℕ) → HasUnits len_of → (chars : List ℕ) (k c : ℕ) → k < length chars
    → char_at len_of chars (unit_index len_of chars k) ≡ Some (get_or chars k c, len_of (get_or chars k c))
char_at-unit_index len_of h chars k c within = grind (arith, take-append-drop k chars, char_at-append len_of h (take k chars) (drop k chars), drop-cons chars k c within)

-- each unit is one of a character: of the one at `index`, `offset` units after its place
pub record UnitOf (len_of : ℕ → ℕ) (chars : List ℕ) (u : ℕ) : Type 0 where
  pub index : ℕ
  pub offset : ℕ
  pub at_place : u ≡ unit_index len_of chars index + offset
  pub within : index < length chars
  pub below : offset < len_of (get_or chars index 0)

pub unit_of : (len_of : ℕ → ℕ) (chars : List ℕ) (u : ℕ) → u < text_len len_of chars → UnitOf len_of chars u
unit_of len_of [] u within = absurd (omega arith)
unit_of len_of (c ∷ cs) u within = elim (cases_lt u (len_of c)) [
  | inl short ↦ record { index = 0; offset = u; at_place = omega arith; within = omega arith; below = short }
  | inr le ↦
      let w = unit_of len_of cs (u - len_of c) (omega (arith, sum_by-cons len_of c cs)) in
      record { index = suc w.index; offset = w.offset; at_place = omega (arith, w.at_place, sum_by-cons len_of c (take w.index cs)); within = omega (arith, w.within); below = w.below }
]

-- ---- an iteration of a `for` over `char_indices`, `indices_lengths` or `chars`

drop-char_indices_from : (len_of : ℕ → ℕ) (from : ℕ) (chars : List ℕ) (k : ℕ) → drop k (char_indices_from len_of from chars) ≡ char_indices_from len_of (from + unit_index len_of chars k) (drop k chars)
drop-char_indices_from len_of from chars zero = ap (λ m. char_indices_from len_of m chars) (omega arith)
drop-char_indices_from len_of from [] (suc k) = grind arith
drop-char_indices_from len_of from (c ∷ cs) (suc k) = grind (arith, drop-char_indices_from (len_of) (from + len_of c) cs k, sum_by-cons)

drop-indices_lengths_from : (len_of : ℕ → ℕ) (from : ℕ) (chars : List ℕ) (k : ℕ)
    → drop k (indices_lengths_from len_of from chars) ≡ indices_lengths_from len_of (from + unit_index len_of chars k) (drop k chars)
drop-indices_lengths_from len_of from chars zero = ap (λ m. indices_lengths_from len_of m chars) (omega arith)
drop-indices_lengths_from len_of from [] (suc k) = grind arith
drop-indices_lengths_from len_of from (c ∷ cs) (suc k) = grind (arith, drop-indices_lengths_from (len_of) (from + len_of c) cs k, sum_by-cons)

first_index : (len_of : ℕ → ℕ) (from : ℕ) (chars : List ℕ) (at c : ℕ) (rest : List (ℕ × ℕ)) → char_indices_from len_of from chars ≡ (at, c) ∷ rest → (at ≡ from) × (chars ≡ c ∷ drop 1 chars)
first_index len_of from [] at c rest e = absurd (cc e)
first_index len_of from (d ∷ ds) at c rest e = grind arith

first_length : (len_of : ℕ → ℕ) (from : ℕ) (chars : List ℕ) (at l : ℕ) (rest : List (ℕ × ℕ))
    → indices_lengths_from len_of from chars ≡ (at, l) ∷ rest
    → (at ≡ from) × (chars ≡ get_or chars 0 0 ∷ drop 1 chars) × (l ≡ len_of (get_or chars 0 0))
first_length len_of from [] at l rest e = absurd (cc e)
first_length len_of from (d ∷ ds) at l rest e = grind arith

-- after n iterations the character c comes, which begins at the index `at`
pub record CharTurn (len_of : ℕ → ℕ) (chars : List ℕ) (n at c : ℕ) : Type 0 where
  pub at_place : at ≡ unit_index len_of chars n
  pub next : drop n chars ≡ c ∷ drop (n + 1) chars
  pub is_char : get_or chars n 0 ≡ c
  pub within : n < length chars
  pub after : unit_index len_of chars (n + 1) ≡ at + len_of c
  pub fits : at + len_of c ≤ text_len len_of chars

pub char_turn_of : (len_of : ℕ → ℕ) (chars : List ℕ) (n at c : ℕ) → at ≡ unit_index len_of chars n → drop n chars ≡ c ∷ drop (n + 1) chars → CharTurn len_of chars n at c
char_turn_of len_of chars n at c here next = grind (arith, length-drop n chars, drop-cons, unit_index-more len_of chars n 0, unit_index-more-le len_of chars n 0)

-- `for (at, c) in text.char_indices()`, which has given xs
pub index_turn : {S : Type 0} {can : S → Type 0} {steps : S → Option (ℕ × ℕ) → S → Type 0} {left : S → Count} {s b : S} (len_of : ℕ → ℕ) (chars : List ℕ)
    → Gives can steps left s (char_indices len_of chars) → b ≡ s
    → (xs : List (ℕ × ℕ)) (t : S) → Yields steps b xs t → (r : Option (ℕ × ℕ)) (u : S) (at c : ℕ) → r ≡ Some (at, c) → steps t r u → CharTurn len_of chars (length xs) at c
index_turn len_of chars g e xs t y r u at c is st =
    let d = turn_drop g e xs t y r u (at, c) is st in
    grind (
      arith,
      d,
      first_index len_of (0 + unit_index len_of chars (length xs)) (drop (length xs) chars) at c,
      drop-char_indices_from len_of 0 chars (length xs),
      char_turn_of len_of chars (length xs) at c,
      drop-drop 1 (length xs) chars,
    )

-- `for (at, l) in text.indices_lengths()`: l is the length of the n-th character
pub record LengthTurn (len_of : ℕ → ℕ) (chars : List ℕ) (n at l : ℕ) : Type 0 where
  pub turn : CharTurn len_of chars n at (get_or chars n 0)
  pub long : l ≡ len_of (get_or chars n 0)
  pub after : unit_index len_of chars (n + 1) ≡ at + l
  pub fits : at + l ≤ text_len len_of chars

pub length_turn : {S : Type 0} {can : S → Type 0} {steps : S → Option (ℕ × ℕ) → S → Type 0} {left : S → Count} {s b : S} (len_of : ℕ → ℕ) (chars : List ℕ)
    → Gives can steps left s (indices_lengths len_of chars) → b ≡ s
    → (xs : List (ℕ × ℕ)) (t : S) → Yields steps b xs t → (r : Option (ℕ × ℕ)) (u : S) (at l : ℕ) → r ≡ Some (at, l) → steps t r u → LengthTurn len_of chars (length xs) at l
length_turn len_of chars g e xs t y r u at l is st =
    let d = turn_drop g e xs t y r u (at, l) is st in
    let w = first_length len_of (0 + unit_index len_of chars (length xs)) (drop (length xs) chars) at l _ (sym (drop-indices_lengths_from len_of 0 chars (length xs)) ∙ d) in
    grind (
      arith,
      common_steps,
      w.0,
      w.1,
      w.2,
      char_turn_of len_of chars (length xs) at (get_or chars (length xs) 0),
      get_or-drop (length xs) chars 0 0,
    )

-- `for c in text.chars()`
pub char_turn : {S : Type 0} {can : S → Type 0} {steps : S → Option ℕ → S → Type 0} {left : S → Count} {s b : S} (len_of : ℕ → ℕ) (chars : List ℕ) → Gives can steps left s chars → b ≡ s
    → (xs : List ℕ) (t : S) → Yields steps b xs t → (r : Option ℕ) (u : S) (c : ℕ) → r ≡ Some c → steps t r u → CharTurn len_of chars (length xs) (unit_index len_of chars (length xs)) c
char_turn len_of chars g e xs t y r u c is st =
    let d = turn_drop g e xs t y r u c is st in grind (
      arith,
      d,
      length-append xs (c ∷ []),
      char_turn_of len_of chars (length xs) (unit_index len_of chars (length xs)) c,
    )

-- at the end of each of these loops every character has come
pub index_end : {S : Type 0} {can : S → Type 0} {steps : S → Option (ℕ × ℕ) → S → Type 0} {left : S → Count} {s b : S} (len_of : ℕ → ℕ) (chars : List ℕ)
    → Gives can steps left s (char_indices len_of chars) → b ≡ s
    → (xs : List (ℕ × ℕ)) (t : S) → Yields steps b xs t → (r : Option (ℕ × ℕ)) (u : S) → r ≡ None → steps t r u → length xs ≡ length chars
index_end len_of chars g e xs t y r u is st = ap length (end g e xs t y r u is st) ∙ length-char_indices_from len_of 0 chars

pub length_end : {S : Type 0} {can : S → Type 0} {steps : S → Option (ℕ × ℕ) → S → Type 0} {left : S → Count} {s b : S} (len_of : ℕ → ℕ) (chars : List ℕ)
    → Gives can steps left s (indices_lengths len_of chars) → b ≡ s
    → (xs : List (ℕ × ℕ)) (t : S) → Yields steps b xs t → (r : Option (ℕ × ℕ)) (u : S) → r ≡ None → steps t r u → length xs ≡ length chars
length_end len_of chars g e xs t y r u is st = ap length (end g e xs t y r u is st) ∙ length-indices_lengths_from len_of 0 chars

pub char_end : {S : Type 0} {can : S → Type 0} {steps : S → Option ℕ → S → Type 0} {left : S → Count} {s b : S} (chars : List ℕ) → Gives can steps left s chars → b ≡ s
    → (xs : List ℕ) (t : S) → Yields steps b xs t → (r : Option ℕ) (u : S) → r ≡ None → steps t r u → length xs ≡ length chars
char_end chars g e xs t y r u is st = ap length (end g e xs t y r u is st)

-- ---- where each character is one unit long

pub text_len-one_unit : (chars : List ℕ) → text_len one_unit chars ≡ length chars
text_len-one_unit [] = refl
text_len-one_unit (c ∷ cs) = omega (arith, sum_by-cons one_unit c cs, text_len-one_unit cs)

pub unit_index-one_unit : (chars : List ℕ) (k : ℕ) → k ≤ length chars → unit_index one_unit chars k ≡ k
unit_index-one_unit chars k short = text_len-one_unit (take k chars) ∙ omega (arith, length-take k chars)
